use Rattle.std.proofs.Common.{take}
use Rattle.run_audit.specs.layers.Walking.{AreAt}
use Rattle.run_audit.proofs.walk.starts.Given as goal

abbrev pub invariant-loop-log : goal.invariant-loop-log
invariant-loop-log l = AreAt (take l.log-index l.logs) l.walks.items
