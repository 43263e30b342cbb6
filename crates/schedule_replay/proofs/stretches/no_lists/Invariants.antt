use Rattle.std.proofs.Common.{◌≡◌, ℕ, []}
use Rattle.schedule_replay.specs.layers.Stretches.{list_at}
use Rattle.schedule_replay.proofs.stretches.no_lists.Given as goal

abbrev pub invariant-lists : goal.invariant-lists
invariant-lists l = (unit : ℕ) → list_at l.lists.items unit ≡ []
