use Rattle.std.proofs.Common.{◌≡◌, drop}
use Rattle.run_audit.proofs.lines.ReportLines.pass.Given as goal

abbrev pub invariant-lines : goal.invariant-lines
invariant-lines l = l.self ≡ drop l.turn l.fn.self
