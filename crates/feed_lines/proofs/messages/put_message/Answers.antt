use Rattle.std.proofs.Common.{arith}
use Rattle.feed_lines.proofs.Putting.{as_one}
use Rattle.feed_lines.proofs.messages.put_message.Goals as goal

pub returns : goal.returns
returns c = as_one _ _ _ _ _ _ (omega arith) c.put_fields.ensures
