use Rattle.std.proofs.Common.{arith}
use Rattle.feed_lines.specs.Show.{message_line}
use Rattle.feed_lines.proofs.Putting.{front_of, back_of}
use Rattle.feed_lines.proofs.messages.put_message_line.Goals as goal

pub returns-clause-text : goal.returns-clause-text
unfolding message_line
returns-clause-text c = front_of _ _ _ _ _ _ (omega arith) c.put_line.ensures

pub returns-clause-rest : goal.returns-clause-rest
returns-clause-rest c = back_of _ _ _ _ _ _ (omega arith) c.put_line.ensures
