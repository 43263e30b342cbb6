use Rattle.std.proofs.Common.{arith}
use Rattle.feed_lines.proofs.Behind.{left_behind}
use Rattle.feed_lines.proofs.lines.put_order_tail.Goals as goal

pub returns-clause-rest : goal.returns-clause-rest
returns-clause-rest c =
    left_behind _ _ _ _ _ _ c.put_byte.ensures.rest c.put_byte.ensures.text (omega arith)
    (left_behind _ _ _ _ _ _ c.put_participant-taken.ensures.rest c.put_participant-taken.ensures.text (omega arith)
    (left_behind _ _ _ _ _ _ c.put_hidden-hidden.ensures.rest c.put_hidden-hidden.ensures.text (omega arith)
    (left_behind _ _ _ _ _ _ c.put_price-priced.ensures.rest c.put_price-priced.ensures.text (omega arith)
    (left_behind _ _ _ _ _ _ c.put_byte-price.ensures.rest c.put_byte-price.ensures.text (omega arith) c.put_name-named.ensures.rest))))
