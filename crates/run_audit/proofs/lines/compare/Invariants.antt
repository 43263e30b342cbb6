use Rattle.std.proofs.Common.{length}
use Rattle.run_audit.specs.layers.Lines.{Passes}
use Rattle.run_audit.proofs.lines.compare.Given as goal

abbrev pub invariant-lines : goal.invariant-lines
invariant-lines l = Passes l.fn.wanted l.fn.lines l.lines l.wanted l.count

abbrev pub decreases-lines : goal.decreases-lines
decreases-lines l = length l.wanted
