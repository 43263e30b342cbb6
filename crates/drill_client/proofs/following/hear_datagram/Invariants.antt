use Rattle.unit_packets.specs.Cutting.{blocks_of}
use Rattle.drill_client.proofs.Going.{HeardTo}
use Rattle.drill_client.proofs.following.hear_datagram.Given as goal

abbrev pub invariant-pieces : goal.invariant-pieces
invariant-pieces l = HeardTo l.fn.client l.client l.datagram (blocks_of l.block-iterator)
