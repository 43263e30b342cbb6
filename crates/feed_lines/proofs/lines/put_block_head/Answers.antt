use Rattle.std.proofs.Common.{arith}
use Rattle.feed_lines.proofs.Behind.{left_behind}
use Rattle.feed_lines.proofs.lines.put_block_head.Goals as goal

pub returns-clause-rest : goal.returns-clause-rest
returns-clause-rest c =
    left_behind _ _ _ _ _ _ c.put_number.ensures.rest c.put_number.ensures.text (omega arith)
    (left_behind _ _ _ _ _ _ c.put_text-count.ensures.rest c.put_text-count.ensures.text (omega arith)
    (left_behind _ _ _ _ _ _ c.put_number-from.ensures.rest c.put_number-from.ensures.text (omega arith)
    (left_behind _ _ _ _ _ _ c.put_text-first.ensures.rest c.put_text-first.ensures.text (omega arith)
    (left_behind _ _ _ _ _ _ c.put_number-of_unit.ensures.rest c.put_number-of_unit.ensures.text (omega arith)
    (left_behind _ _ _ _ _ _ c.put_text-unit.ensures.rest c.put_text-unit.ensures.text (omega arith)
    (left_behind _ _ _ _ _ _ c.put_number-numbered.ensures.rest c.put_number-numbered.ensures.text (omega arith) c.put_text-block.ensures.rest))))))
