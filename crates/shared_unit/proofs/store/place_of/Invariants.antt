use Rattle.std.proofs.Common.{◌≡◌, ◌==◌, false, take, map}
use Rattle.std.specs.List.{list_any}
use Rattle.shared_unit.specs.layers.Stored.{sequence_of}
use Rattle.shared_unit.proofs.store.place_of.Given as goal

abbrev pub invariant-places : goal.invariant-places
invariant-places l = list_any (λ n. n == l.sequence) (map sequence_of (take l.i l.pictures.items)) ≡ false
