use Rattle.std.proofs.Common.{arith}
use Rattle.feed_lines.proofs.Putting.{one_put}
use Rattle.feed_lines.proofs.fields.digits.Goals as goal

pub returns : goal.returns
returns c = one_put _ _ _ _ _ _ c.put_number.ensures.text c.put_number.ensures.rest c.put_number.ensures.kept (omega arith) (omega arith) (omega arith)
