use Rattle.std.proofs.Common.{List, ℕ, Option, Some, None, refl}
use Rattle.text_lines.specs.declared.fields.FoundField.{FoundField}
use Rattle.text_lines.specs.layers.Seen.{seen, IsNext}
use Rattle.text_lines.proofs.fields.LineFields.peek.Goals as goal

peeks : (next : Option FoundField) (rest : List ℕ) → IsNext (seen next rest) next
peeks None rest = refl
peeks (Some f) rest = (_, refl)

pub returns : goal.returns
returns c = rw (← c.self.view_is) (peeks c.self.inside.next c.self.inside.rest.now)
