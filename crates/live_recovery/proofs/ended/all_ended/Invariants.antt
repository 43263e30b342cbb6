use Rattle.std.proofs.Common.{◌≡◌, ℕ, true, take, List, Option}
use Rattle.std.specs.List.{list_all}
use Rattle.live_units.specs.Ended.{has_ended}
use Rattle.live_units.specs.Units.{OfLive}
use Rattle.live_recovery.proofs.ended.all_ended.Given as goal

abbrev pub invariant-named : goal.invariant-named
invariant-named l = (now : Option (List ℕ)) → OfLive l.units now (λ s start came. list_all (λ (unit : ℕ). has_ended s unit came) (take l.unit-index l.named) ≡ true)
