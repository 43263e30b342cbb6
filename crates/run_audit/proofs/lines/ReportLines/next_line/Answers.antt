use Rattle.run_audit.proofs.Cutting.{lines_are_none}
use Rattle.std.proofs.Common.{rules}
use Rattle.run_audit.proofs.lines.ReportLines.next_line.Goals as goal

pub returns-then-is_empty : goal.returns-then-is_empty
returns-then-is_empty c =
    let none = lines_are_none c.self.inside.rest.now (search rules) in
    (search (rules, none), search (rules, none))
