use Rattle.std.proofs.Common.{arith}
use Rattle.feed_lines.proofs.Behind.{left_behind}
use Rattle.feed_lines.proofs.lines.put_status_line.Goals as goal

pub returns-clause-rest : goal.returns-clause-rest
returns-clause-rest c =
    left_behind _ _ _ _ _ _ c.put_byte.ensures.rest c.put_byte.ensures.text (omega arith)
    (left_behind _ _ _ _ _ _ c.put_name-done.ensures.rest c.put_name-done.ensures.text (omega arith)
    (left_behind _ _ _ _ _ _ c.put_byte-sho.ensures.rest c.put_byte-sho.ensures.text (omega arith)
    (left_behind _ _ _ _ _ _ c.put_name-halted.ensures.rest c.put_name-halted.ensures.text (omega arith)
    (left_behind _ _ _ _ _ _ c.put_byte-halt.ensures.rest c.put_byte-halt.ensures.text (omega arith)
    (left_behind _ _ _ _ _ _ c.put_name-named.ensures.rest c.put_name-named.ensures.text (omega arith) c.put_text-open.ensures.rest)))))
