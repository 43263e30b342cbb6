use Rattle.std.proofs.Common.{ap, ◌∙◌, ◌++◌, take, arith}
use Rattle.pitch_fields.specs.Price.{price_digits}
use Rattle.feed_lines.specs.Show.{price_field}
use Rattle.feed_lines.proofs.Putting.{after_name}
use Rattle.feed_lines.proofs.fields.price.Goals as goal

pub returns : goal.returns
unfolding price_field
returns c = after_name _ _ _ _ _ _ _ _ _ _ c.text-named.ensures (c.put_price.ensures.text ∙ ap (λ p. take c.text-named.result c.text-named.new.out ++ price_digits p) c.from_long.ensures) c.put_price.ensures.rest c.put_price.ensures.kept (omega arith) (omega arith) (omega arith) (omega arith)
