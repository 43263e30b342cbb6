use Rattle.std.proofs.Common.{ℕ, List, take, refl, ◌∙◌, ap, subst}
use Rattle.std.proofs.lemmas.Bool.{eq-eqb}
use Rattle.live_net.specs.declared.live.PeerPut.TheVariants as put
use Rattle.live_turns.specs.Due.{room_for_one}
use Rattle.venue_net.specs.VenueCalls.{Put}
use Rattle.venue_turns.specs.Turning.{Passes}
use Rattle.venue_turns.specs.declared.due.Due.TheVariants as to
use Rattle.venue_turns.specs.declared.turns.VenueTurns.{VenueTurns}
use Rattle.live_venue.proofs.Going.{calls_on, goes_keeping, goes_quietly, goes_still, left_keeps, wrote_keeps}
use Rattle.live_venue.proofs.serving.Serving.put.Goals as goal

pub returns-then-is_empty-clause-goes : goal.returns-then-is_empty-clause-goes
returns-then-is_empty-clause-goes g c = λ s start about. goes_still s start (g.N.VenueNet.calls c.args.net.now) c.args.self.now (to.Put c.args.place) about

pub returns-in-Wrote-clause-goes : goal.returns-in-Wrote-clause-goes
returns-in-Wrote-clause-goes g c = λ s start about.
    let calls = g.N.VenueNet.calls c.args.net.now in
    let piece : List ℕ = c.first_piece.result.now in
    let call = Put c.args.place piece (put.Wrote c.in-Wrote.count) in
    let first = c.first_piece.ensures ∙ ap (take room_for_one) (c.waiting-waiting.ensures s about.now.came about.stands.serve.stand) in
    let became = c.wrote.ensures.goes s about.now about.stands.serve about.stands.idle.sent in
    goes_keeping s start calls c.args.self.now (to.Put c.args.place) about call (refl, first) (g.N.VenueNet.calls c.put.new.self) c.in-Wrote.ensures.calls became.0
    (calls_on s start calls c.args.self.now (to.Put c.args.place) about call (refl, first) became.0 became.1.0 c.in-Wrote.ensures.count) tt refl (record c.wrote.new.self { turns = c.wrote-in-Wrote.new.self }) (subst (λ (t : VenueTurns). Passes t c.wrote-in-Wrote.new.self call) c.wrote.ensures.turns (c.wrote-in-Wrote.ensures c.in-Wrote.count piece))
    (wrote_keeps s c.args.place c.in-Wrote.count about.now became.0 became.1.0) c.wrote.ensures.reader became.1.1

pub returns-in-Full-clause-goes : goal.returns-in-Full-clause-goes
returns-in-Full-clause-goes g c = λ s start about.
    let calls = g.N.VenueNet.calls c.args.net.now in
    let piece : List ℕ = c.first_piece.result.now in
    let call = Put c.args.place piece put.Full in
    let first = c.first_piece.ensures ∙ ap (take room_for_one) (c.waiting-waiting.ensures s about.now.came about.stands.serve.stand) in
    goes_quietly s start calls c.args.self.now (to.Put c.args.place) about call (refl, first) (g.N.VenueNet.calls c.put.new.self) c.in-Full.ensures.calls
    (calls_on s start calls c.args.self.now (to.Put c.args.place) about call (refl, first) about.now refl tt) tt refl c.full.new.self (c.full.ensures piece)

pub returns-in-Ended-clause-goes : goal.returns-in-Ended-clause-goes
returns-in-Ended-clause-goes g c = λ s start about.
    let calls = g.N.VenueNet.calls c.args.net.now in
    let piece : List ℕ = c.first_piece.result.now in
    let call = Put c.args.place piece put.Ended in
    let first = c.first_piece.ensures ∙ ap (take room_for_one) (c.waiting-waiting.ensures s about.now.came about.stands.serve.stand) in
    let became = c.end.ensures.goes s about.now about.stands.serve about.stands.idle.sent in
    goes_keeping s start calls c.args.self.now (to.Put c.args.place) about call (refl, first) (g.N.VenueNet.calls c.put.new.self) c.in-Ended.ensures.calls became.0
    (calls_on s start calls c.args.self.now (to.Put c.args.place) about call (refl, first) became.0 became.1.0 tt) tt refl c.end.new.self (c.end.ensures.turns call (eq-eqb c.args.place c.args.place refl))
    (left_keeps c.args.place about.now became.0 became.1.0) c.end.ensures.reader became.1.1
