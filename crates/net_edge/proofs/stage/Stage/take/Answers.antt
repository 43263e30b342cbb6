use Rattle.std.proofs.Common.{[]}
use Rattle.pitch_io.specs.layers.Coming.{came}
use Rattle.net_edge.specs.Acting.{link_takes}
use Rattle.net_edge.proofs.Staging.{none_replays}
use Rattle.net_edge.proofs.Taking.{link_replayed}
use Rattle.net_edge.proofs.stage.Stage.take.Goals as goal

pub returns-then-is_client-clause-holds : goal.returns-then-is_client-clause-holds
returns-then-is_client-clause-holds g c = λ w h. rw (← c.is_client.ensures, c.if-is_client.true, ← c.session_at-session.ensures) (c.in_ok-hear.ensures.holds w (c.note_end.ensures.holds w h))

pub returns-clause-holds : goal.returns-clause-holds
returns-clause-holds g c = λ w h. rw (← c.is_client.ensures, c.if-is_client.false, ← c.session_at-session.ensures) (c.in_ok-serve.ensures.becomes.holds w (c.note_end.ensures.holds w h))

pub returns-then-is_client-clause-replays : goal.returns-then-is_client-clause-replays
returns-then-is_client-clause-replays g c =
    let session = c.session_at-session.result in
    let bytes = came c.args.taken c.args.into.now in
    λ w h. rw (← c.is_client.ensures, c.if-is_client.true, ← c.session_at-session.ensures, c.make-gap_line.ensures) (none_replays w (link_takes session bytes c.args.taken w) [] (link_replayed session bytes c.args.taken w))

pub returns-clause-replays : goal.returns-clause-replays
returns-clause-replays g c = λ w h.
    rw (← c.is_client.ensures, c.if-is_client.false, ← c.session_at-session.ensures) (rw c.make-gap_line.ensures at (c.in_ok-serve.ensures.replays w (c.note_end.ensures.holds w h)))
