use Rattle.std.proofs.Common.{◌≡◌, ℕ, Option, None, Some, slice_get, vec_len}
use Rattle.unit_clients.proofs.table.empty_places.Given as goal

abbrev pub invariant-loop : goal.invariant-loop
invariant-loop g l = record {
  many : vec_len l.places ≡ l.counter;
  none : (unit : ℕ) (place : Option _) → slice_get l.places.items unit ≡ Some place → place ≡ None;
}
