use Rattle.std.proofs.Common.{◌≡◌, ℕ, Option, None, Some, vec_len}
use Rattle.std.specs.List.{slice_get}
use Rattle.world_model.specs.declared.world.World.{World}
use Rattle.schedule_replay.proofs.running.no_worlds.Given as goal

abbrev pub invariant-places : goal.invariant-places
invariant-places l = record {
  many : vec_len l.places ≡ l.counter;
  none : (unit : ℕ) (place : Option World) → slice_get l.places.items unit ≡ Some place → place ≡ None;
}
