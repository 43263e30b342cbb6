use Rattle.std.proofs.Common.{arith}
use Rattle.feed_lines.specs.Show.{number_field}
use Rattle.feed_lines.proofs.Putting.{after_name}
use Rattle.feed_lines.proofs.fields.number.Goals as goal

pub returns : goal.returns
unfolding number_field
returns c = after_name _ _ _ _ _ _ _ _ _ _ c.text-named.ensures c.put_number.ensures.text c.put_number.ensures.rest c.put_number.ensures.kept (omega arith) (omega arith) (omega arith) (omega arith)
