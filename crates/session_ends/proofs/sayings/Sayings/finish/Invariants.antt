use Rattle.std.proofs.Common.{◌≡◌, length}
use Rattle.session_ends.specs.layers.Hearing.{says}
use Rattle.session_ends.proofs.sayings.Sayings.finish.Given as goal

abbrev pub invariant-left : goal.invariant-left
invariant-left l = l.self.bytes ≡ l.initial.self.bytes

abbrev pub decreases-left : goal.decreases-left
decreases-left l = length (says l.self)
