use Rattle.std.proofs.Common.{length}
use Rattle.sending_end.proofs.Hearing.{HeardTo}
use Rattle.sending_end.proofs.end.SendingEnd.hear_datagram.Given as goal

abbrev pub invariant-next : goal.invariant-next
invariant-next l = HeardTo l.fn.self l.self l.bytes l.blocks l.heard l.others

abbrev pub decreases-next : goal.decreases-next
decreases-next l = length l.blocks
