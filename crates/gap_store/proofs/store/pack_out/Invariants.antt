use Rattle.std.proofs.Common.{take, drop}
use Rattle.unit_packets.proofs.PackingAll.{SoFar}
use Rattle.gap_store.proofs.Ranges.{left_of}
use Rattle.gap_store.proofs.store.pack_out.Given as goal

abbrev pub invariant-packs : goal.invariant-packs
invariant-packs l = SoFar l.initial.packer.unit l.initial.packer.sequence (take l.count (drop l.at l.ring.items)) (left_of l.ring.items l.at l.count l.i) l.packer l.initial.out.items l.out.items
