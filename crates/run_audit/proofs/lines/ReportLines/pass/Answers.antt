use Rattle.std.proofs.Common.{Bor, List, ℕ}
use Rattle.run_audit.proofs.Agreeing.{next_of}
use Rattle.run_audit.proofs.lines.ReportLines.pass.Goals as goal

pub lines-preserved : goal.lines-preserved
lines-preserved c = next_of (λ (x : Bor (List ℕ)). x.now) c.next_line.result c.args.self.now c.lines.self c.next_line.new.self c.lines.turn c.next_line.ensures c.lines.invariant
