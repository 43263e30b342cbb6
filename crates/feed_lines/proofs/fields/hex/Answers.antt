use Rattle.std.proofs.Common.{arith}
use Rattle.feed_lines.specs.Show.{hex_field}
use Rattle.feed_lines.proofs.Putting.{after_name}
use Rattle.feed_lines.proofs.fields.hex.Goals as goal

pub returns : goal.returns
unfolding hex_field
returns c = after_name _ _ _ _ _ _ _ _ _ _ c.text-named.ensures c.put_hex.ensures.text c.put_hex.ensures.rest c.put_hex.ensures.kept (omega arith) (omega arith) (omega arith) (omega arith)
