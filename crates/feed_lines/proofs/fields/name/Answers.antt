use Rattle.std.proofs.Common.{arith}
use Rattle.feed_lines.specs.Show.{text_field}
use Rattle.feed_lines.proofs.Putting.{after_name}
use Rattle.feed_lines.proofs.fields.name.Goals as goal

pub returns : goal.returns
unfolding text_field
returns c = after_name _ _ _ _ _ _ _ _ _ _ c.text-named.ensures c.put_name.ensures.text c.put_name.ensures.rest c.put_name.ensures.kept (omega arith) (omega arith) (omega arith) (omega arith)
