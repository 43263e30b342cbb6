use Rattle.std.proofs.Common.{ap, ◌∙◌, ◌++◌, [], ◌∷◌, take, arith}
use Rattle.feed_lines.specs.Show.{side_text}
use Rattle.feed_lines.proofs.Putting.{after_name}
use Rattle.feed_lines.proofs.fields.side.Goals as goal

pub returns : goal.returns
unfolding side_text
returns c = after_name _ _ _ _ _ _ _ _ _ _ c.text-named.ensures (c.put_byte.ensures.text ∙ ap (λ b. take c.text-named.result c.text-named.new.out ++ b ∷ []) c.byte.ensures) c.put_byte.ensures.rest c.put_byte.ensures.kept (omega arith) (omega arith) (omega arith) (omega arith)
