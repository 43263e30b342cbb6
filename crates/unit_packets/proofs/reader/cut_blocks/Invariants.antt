use Rattle.std.proofs.Common.{length}
use Rattle.unit_packets.proofs.Feeds.{Cutting}
use Rattle.unit_packets.proofs.reader.cut_blocks.Given as goal

abbrev pub invariant-next : goal.invariant-next
invariant-next l = Cutting l.bytes l.blocks l.initial.out.items l.out.items

abbrev pub decreases-next : goal.decreases-next
decreases-next l = length l.blocks
