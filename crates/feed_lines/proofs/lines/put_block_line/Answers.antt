use Rattle.std.proofs.Common.{arith}
use Rattle.feed_lines.proofs.Behind.{left_behind}
use Rattle.feed_lines.proofs.lines.put_block_line.Goals as goal

pub returns-clause-rest : goal.returns-clause-rest
returns-clause-rest c =
    left_behind _ _ _ _ _ _ c.put_byte.ensures.rest c.put_byte.ensures.text (omega arith)
    (left_behind _ _ _ _ _ _ c.put_status-stated.ensures.rest c.put_status-stated.ensures.text (omega arith)
    (left_behind _ _ _ _ _ _ c.put_text-colon.ensures.rest c.put_text-colon.ensures.text (omega arith)
    (left_behind _ _ _ _ _ _ c.put_overflow-marked.ensures.rest c.put_overflow-marked.ensures.text (omega arith) c.put_block_head-head.ensures.rest)))
