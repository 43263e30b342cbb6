use Rattle.std.proofs.Common.{length}
use Rattle.own_client.proofs.Hearing.{HeardTo}
use Rattle.own_client.proofs.hear.Given as goal

abbrev pub invariant-next : goal.invariant-next
invariant-next l = HeardTo l.fn.units l.units l.bytes l.blocks

abbrev pub decreases-next : goal.decreases-next
decreases-next l = length l.blocks
