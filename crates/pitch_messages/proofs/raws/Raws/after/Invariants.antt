use Rattle.std.proofs.Common.{◌≡◌, drop}
use Rattle.pitch_messages.proofs.raws.Raws.after.Given as goal

abbrev pub invariant-passed : goal.invariant-passed
invariant-passed l = l.raws ≡ drop l.counter l.self
