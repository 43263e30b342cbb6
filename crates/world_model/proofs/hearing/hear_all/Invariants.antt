use Rattle.std.proofs.Common.{take}
use Rattle.std.specs.List.{flat_map}
use Rattle.unit_packets.specs.Cutting.{blocks_of}
use Rattle.unit_packets.specs.Packing.{bytes_in}
use Rattle.world_model.specs.layers.Hearing.{HearsBlocks}
use Rattle.world_model.proofs.hearing.hear_all.Given as goal

abbrev pub invariant-lines : goal.invariant-lines
invariant-lines l = HearsBlocks l.unit l.line l.fn.client l.client l.fn.arbiter l.arbiter (flat_map blocks_of (bytes_in (take l.datagram-index l.datagrams))) l.overflow
