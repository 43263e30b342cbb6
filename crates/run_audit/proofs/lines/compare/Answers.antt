use Rattle.std.proofs.Common.{rules}
use Rattle.run_audit.proofs.Comparing.{passes_more}
use Rattle.run_audit.proofs.lines.compare.Goals as goal

pub lines-preserved : goal.lines-preserved
lines-preserved c = passes_more c.args.wanted c.args.lines.now c.lines.lines c.lines.wanted c.next_line-in-Some.new.self c.next_line.new.self c.in-Some.line.now c.in-Some-next_line.found.now c.lines.count c.lines.invariant (search rules) (search rules) (search rules)
