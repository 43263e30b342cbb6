use Rattle.std.proofs.Common.{◌≡◌, take}
use Rattle.shared_unit.proofs.sequences.Sequences.again.Given as goal

abbrev pub invariant-copies : goal.invariant-copies
invariant-copies l = l.items.items ≡ take l.sequence-index l.all
