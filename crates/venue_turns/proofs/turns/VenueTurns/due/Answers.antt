use Rattle.std.proofs.Common.{◌≡◌, length, sym, ◌∙◌, arith, subst}
use Rattle.venue_turns.specs.Turning.{IsSeen}
use Rattle.venue_turns.specs.declared.place.Place.{Place}
use Rattle.venue_turns.proofs.Answering.{answers_first, first_within, put_is_over, put_here}
use Rattle.venue_turns.proofs.turns.VenueTurns.due.Goals as goal

pub returns-in-First : goal.returns-in-First
returns-in-First c = λ w e run st seen.
    let place = c.in-First.place in
    let at : (c.args.shut ≡ e.shut place) × (c.args.waiting ≡ length (e.waits place)) = subst (λ (p : Place). IsSeen e p c.args.shut c.args.waiting) c.in-First.is seen in
    let within = first_within w e c.args.self.now run st place c.in-First.is in
    let many = st.ways.places_are in
    answers_first w e c.args.self.now run st place c.in-First.is c.first_of.result (c.first_of.ensures e run st.each (omega (arith, within, many)) at.1)

pub returns-in-Put-3 : goal.returns-in-Put-3
returns-in-Put-3 c = λ w e run st seen.
    let place = c.in-Put-3.place in
    let here = c.in-Put-3.is in
    let none = c.if-waiting-gt0.false in
    let at : (c.args.shut ≡ e.shut place) × (c.args.waiting ≡ length (e.waits place)) = subst (λ (p : Place). IsSeen e p c.args.shut c.args.waiting) here seen in
    let is = at.1 in
    put_is_over w e c.args.self.now run st place c.in-Put-3.field-1 here (omega (arith, none, is)) (sym at.0 ∙ c.if-shut-2.false) c.after_place-self.result (c.after_place-self.ensures.due w e run st.ways)
    (c.after_place-self.ensures.place w run st.ways (put_here w e c.args.self.now run st place c.in-Put-3.field-1 here).3) c.after_place-self.ensures.from
