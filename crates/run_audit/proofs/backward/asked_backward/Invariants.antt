use Rattle.std.proofs.Common.{◌≡◌, ◌+◌, ◌-◌, ◌≤◌, drop, length}
use Rattle.std.specs.List.{All}
use Rattle.run_audit.specs.layers.Backward.{IsAsked}
use Rattle.run_audit.specs.Report.{lines_of}
use Rattle.run_audit.proofs.backward.asked_backward.Given as goal

abbrev pub invariant-lines : goal.invariant-lines
invariant-lines l = record {
  from : l.lines ≡ drop (l.number - 1) (lines_of l.text);
  some : 1 ≤ l.number;
  few : l.number + length l.lines ≤ length (lines_of l.text) + 1;
  asked : All (IsAsked (lines_of l.text)) l.asked.items;
}

abbrev pub decreases-lines : goal.decreases-lines
decreases-lines l = length l.lines
