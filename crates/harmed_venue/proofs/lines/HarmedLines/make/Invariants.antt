use Rattle.std.proofs.Common.{◌≡◌}
use Rattle.harmed_venue.specs.Lines.{lines_at_first}
use Rattle.harmed_venue.proofs.lines.HarmedLines.make.Given as goal

abbrev pub invariant-loop-line : goal.invariant-loop-line
invariant-loop-line l = l.lines.items ≡ lines_at_first l.harm l.line
