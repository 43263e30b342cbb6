use Rattle.unit_commands.proofs.CutLemmas.{are_left}
use Rattle.unit_commands.proofs.pieces.TextPieces.pass.Goals as goal

pub invariant_of-self : goal.invariant_of-self
invariant_of-self c = are_left c.self.inside.bytes.items c.keep_from.new.buffer.items c.self.inside.whole c.self.invariant c.keep_from.ensures
