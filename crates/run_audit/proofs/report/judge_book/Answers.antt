use Rattle.run_audit.specs.layers.Finding.{messages_of}
use Rattle.run_audit.proofs.Agreeing.{judged_before, judged_named}
use Rattle.run_audit.proofs.Deciding.{names}
use Rattle.run_audit.proofs.report.judge_book.Goals as goal

pub returns-in-Some-clause-judged : goal.returns-in-Some-clause-judged
returns-in-Some-clause-judged c =
    judged_before (messages_of c.args.logs.now) c.args.line.now c.args.lines.now c.pass.new.self c.args.number c.in-Some.count c.args.agreed.now c.requires.agreed c.in-Some.ensures c.pass.ensures

pub returns-in-Some-2-clause-judged : goal.returns-in-Some-2-clause-judged
returns-in-Some-2-clause-judged c =
    judged_named (messages_of c.args.logs.now) c.args.line.now c.args.lines.now c.compare.new.lines c.new.result c.compare.result
    (names (messages_of c.args.logs.now) c.args.line.now c.in_ok-book.field-0 c.in-Some-2.book c.bytes.result.now c.new.result c.in_ok-book.ensures.finds c.in-Some-2.is c.bytes.ensures c.new.ensures) c.compare.ensures
