use Rattle.std.proofs.Common.{◌≤◌, ◌-◌}
use Rattle.run_audit.specs.layers.Walking.{IsAt}
use Rattle.run_audit.proofs.walk.go_to.Given as goal

abbrev pub invariant-steps : goal.invariant-steps
invariant-steps l = record {
  at : IsAt l.log.items l.walk;
  most : l.walk.n ≤ l.n;
}

abbrev pub decreases-steps : goal.decreases-steps
decreases-steps l = l.n - l.walk.n
