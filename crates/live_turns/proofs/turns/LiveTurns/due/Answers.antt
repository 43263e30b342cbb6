use Rattle.std.proofs.Common.{◌≡◌, length, arith, subst}
use Rattle.live_turns.specs.Turning.{IsSeen}
use Rattle.live_turns.specs.declared.place.Place.{Place}
use Rattle.live_turns.proofs.Answering.{put_is_over, put_here}
use Rattle.live_turns.proofs.turns.LiveTurns.due.Goals as goal

pub returns-in-Put-2 : goal.returns-in-Put-2
returns-in-Put-2 c = λ w e run st seen.
    let here = c.in-Put-2.is in
    let none = c.if-waiting-gt0.false in
    let at : (c.args.has ≡ e.has c.in-Put-2.peer) × (c.args.waiting ≡ length (e.waits c.in-Put-2.peer)) = subst (λ (p : Place). IsSeen e p c.args.has c.args.waiting) here seen in
    let place = put_here w e c.args.self.now run c.in-Put-2.peer st here in
    put_is_over w e c.args.self.now run c.in-Put-2.peer st here (let so = at.1 in omega arith) c.after_peer-self.result (c.after_peer-self.ensures.due w e run st.ways) (c.after_peer-self.ensures.place w run st.ways place.1) c.after_peer-self.ensures.from
