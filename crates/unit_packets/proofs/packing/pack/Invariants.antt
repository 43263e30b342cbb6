use Rattle.std.proofs.Common.{length}
use Rattle.unit_packets.proofs.PackingAll.{SoFar}
use Rattle.unit_packets.proofs.packing.pack.Given as goal

abbrev pub invariant-messages : goal.invariant-messages
invariant-messages l = SoFar l.unit l.first l.initial.raws l.raws l.packer l.fn.out.items l.out.items

abbrev pub decreases-messages : goal.decreases-messages
decreases-messages l = length l.raws
