use Rattle.std.proofs.Common.{arith}
use Rattle.feed_lines.proofs.Behind.{left_behind}
use Rattle.feed_lines.proofs.lines.put_order_head.Goals as goal

pub returns-clause-rest : goal.returns-clause-rest
returns-clause-rest c =
    left_behind _ _ _ _ _ _ c.put_byte.ensures.rest c.put_byte.ensures.text (omega arith)
    (left_behind _ _ _ _ _ _ c.put_number-counted.ensures.rest c.put_number-counted.ensures.text (omega arith)
    (left_behind _ _ _ _ _ _ c.put_byte-quantity.ensures.rest c.put_byte-quantity.ensures.text (omega arith)
    (left_behind _ _ _ _ _ _ c.put_byte-sided.ensures.rest c.put_byte-sided.ensures.text (omega arith)
    (left_behind _ _ _ _ _ _ c.put_byte-side.ensures.rest c.put_byte-side.ensures.text (omega arith)
    (left_behind _ _ _ _ _ _ c.put_number-named.ensures.rest c.put_number-named.ensures.text (omega arith) c.put_text-open.ensures.rest)))))
