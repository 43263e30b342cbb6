use Rattle.std.proofs.Common.{arith}
use Rattle.feed_lines.proofs.Behind.{left_behind}
use Rattle.feed_lines.proofs.lines.put_book_place.Goals as goal

pub returns-clause-rest : goal.returns-clause-rest
returns-clause-rest c =
    left_behind _ _ _ _ _ _ c.put_second.ensures.rest c.put_second.ensures.text (omega arith)
    (left_behind _ _ _ _ _ _ c.put_text-clock.ensures.rest c.put_text-clock.ensures.text (omega arith)
    (left_behind _ _ _ _ _ _ c.put_number-reached.ensures.rest c.put_number-reached.ensures.text (omega arith)
    (left_behind _ _ _ _ _ _ c.put_text-at_text.ensures.rest c.put_text-at_text.ensures.text (omega arith)
    (left_behind _ _ _ _ _ _ c.put_number-of_unit.ensures.rest c.put_number-of_unit.ensures.text (omega arith) c.put_text-book.ensures.rest))))
