use Rattle.std.proofs.Common.{refl}
use Rattle.net_edge.proofs.Staging.{taken_becomes}
use Rattle.net_edge.proofs.stage.Stage.put.Goals as goal

pub returns-then-is_client : goal.returns-then-is_client
returns-then-is_client g c =
    let taken = taken_becomes g.V.Venue.is c.session_at-session.result c.args.count c.args.self.now c.sent.new.self (rw c.at_client.ensures at c.sent.ensures.left) (rw c.at_client.ensures at c.sent.ensures.other) c.sent.ensures.stands in
    record { holds = λ w h. rw (← c.is_client.ensures, c.if-is_client.true, ← c.session_at-session.ensures) (taken.holds w h); ended = refl }
