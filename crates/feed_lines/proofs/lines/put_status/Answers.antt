use Rattle.std.proofs.Common.{arith}
use Rattle.feed_lines.proofs.Behind.{left_behind}
use Rattle.feed_lines.proofs.lines.put_status.Goals as goal

pub returns-in-Current-clause-rest : goal.returns-in-Current-clause-rest
returns-in-Current-clause-rest c =
    left_behind _ _ _ _ _ _ c.put_number.ensures.rest c.put_number.ensures.text (omega arith) c.put_text-current.ensures.rest

pub returns-in-Behind-clause-rest : goal.returns-in-Behind-clause-rest
returns-in-Behind-clause-rest c =
    left_behind _ _ _ _ _ _ c.put_number-in-Behind.ensures.rest c.put_number-in-Behind.ensures.text (omega arith)
    (left_behind _ _ _ _ _ _ c.put_text-of.ensures.rest c.put_text-of.ensures.text (omega arith)
    (left_behind _ _ _ _ _ _ c.put_number-reached.ensures.rest c.put_number-reached.ensures.text (omega arith) c.put_text-behind.ensures.rest))
