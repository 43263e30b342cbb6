use Rattle.std.proofs.Common.{arith}
use Rattle.feed_lines.proofs.Behind.{left_behind}
use Rattle.feed_lines.proofs.unit_line.put_unit_line.Goals as goal

pub returns-clause-rest : goal.returns-clause-rest
returns-clause-rest c =
    left_behind _ _ _ _ _ _ c.put_byte.ensures.rest c.put_byte.ensures.text (omega arith)
    (left_behind _ _ _ _ _ _ c.put_number_field-summed.ensures.rest c.put_number_field-summed.ensures.text (omega arith)
    (left_behind _ _ _ _ _ _ c.put_number_field-counted.ensures.rest c.put_number_field-counted.ensures.text (omega arith)
    (left_behind _ _ _ _ _ _ c.put_status-placed.ensures.rest c.put_status-placed.ensures.text (omega arith)
    (left_behind _ _ _ _ _ _ c.put_text-spaced.ensures.rest c.put_text-spaced.ensures.text (omega arith) c.put_number_field-named.ensures.rest))))
