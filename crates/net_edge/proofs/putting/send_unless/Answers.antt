use Rattle.net_edge.proofs.Runs.{sent_none}
use Rattle.net_edge.proofs.putting.send_unless.Goals as goal

pub returns-then-lost-clause-sent : goal.returns-then-lost-clause-sent
returns-then-lost-clause-sent g c = λ s base now plays pieces. rw (c.if-lost.true, sent_none c.args.line now) plays

pub returns-clause-sent : goal.returns-clause-sent
returns-clause-sent g c = λ s base now plays pieces. rw c.if-lost.false (c.in_ok-send_all.ensures.sent s base now plays pieces)
