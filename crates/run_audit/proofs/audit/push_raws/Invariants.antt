use Rattle.std.proofs.Common.{◌≡◌, ◌++◌, ◌≤◌, length}
use Rattle.run_audit.proofs.audit.push_raws.Given as goal

abbrev pub invariant-messages : goal.invariant-messages
invariant-messages l = record {
  joined : l.log.items ++ l.raws ≡ l.fn.log.items ++ l.fn.raws;
  room : length l.raws ≤ l.log.spare;
}

abbrev pub decreases-messages : goal.decreases-messages
decreases-messages l = length l.raws
