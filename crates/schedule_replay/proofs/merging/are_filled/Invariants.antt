use Rattle.std.proofs.Common.{◌≡◌, ℕ, ◌<◌, true, length}
use Rattle.schedule_replay.specs.layers.Runs.{has_world}
use Rattle.schedule_replay.specs.layers.Stretches.{list_at}
use Rattle.schedule_replay.proofs.merging.are_filled.Given as goal

abbrev pub invariant-units : goal.invariant-units
invariant-units l = (unit : ℕ) → unit < l.unit → 0 < length (list_at l.lists unit) → has_world l.places unit ≡ true
