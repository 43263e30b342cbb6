use Rattle.std.proofs.Common.{◌≡◌, length}
use Rattle.shared_tests.proofs.threads.publish_all.Given as goal

abbrev pub invariant-commands : goal.invariant-commands
invariant-commands g l = length l.writer.history ≡ l.index
