use Rattle.std.proofs.Common.{ap, sym, ◌∙◌}
use Rattle.unit_packets.specs.Packing.{sequence_after}
use Rattle.unit_packets.specs.Pushing.{next_sequence}
use Rattle.unit_packets.proofs.packer.Packer.next_sequence.Goals as goal

pub returns : goal.returns
returns c = c.sequence_after.ensures ∙ ap (sequence_after c.self.inside.sequence) (sym c.self.invariant.chain.many) ∙ ap next_sequence c.self.view_is
