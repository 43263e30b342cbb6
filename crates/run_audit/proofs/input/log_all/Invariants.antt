use Rattle.std.proofs.Common.{◌-◌, length}
use Rattle.run_audit.proofs.Inputs.{LogsSo}
use Rattle.run_audit.proofs.input.log_all.Given as goal

abbrev pub invariant-places : goal.invariant-places
invariant-places l = LogsSo l.log l.audit l.at

abbrev pub decreases-places : goal.decreases-places
decreases-places l = length l.log - l.at
