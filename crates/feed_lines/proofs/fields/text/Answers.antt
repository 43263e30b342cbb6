use Rattle.std.proofs.Common.{arith}
use Rattle.feed_lines.proofs.Putting.{one_put}
use Rattle.feed_lines.proofs.fields.text.Goals as goal

pub returns : goal.returns
returns c = one_put _ _ _ _ _ _ c.put_text.ensures.text c.put_text.ensures.rest c.put_text.ensures.kept (omega arith) (omega arith) (omega arith)
