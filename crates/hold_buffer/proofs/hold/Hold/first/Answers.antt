use Rattle.std.proofs.Common.{◌≡◌, ℕ, ◌≤◌, subst, IsSome, MatchOption, None}
use Rattle.std.specs.FinMap as map
use Rattle.hold_buffer.specs.HoldView.{HoldView}
use Rattle.hold_buffer.proofs.Kept.{least_first}
use Rattle.hold_buffer.proofs.hold.Hold.first.Goals as goal

pub returns : goal.returns
returns c =
    subst (λ (h : HoldView). MatchOption c.first_sequence.result ((k : ℕ) → map.get h.held k ≡ None) (λ first. IsSome (map.get h.held first) × ((k : ℕ) → IsSome (map.get h.held k) → first ≤ k))) c.self.view_is
    (least_first c.self.inside.floor c.self.inside.ring c.self.invariant c.first_sequence.result c.first_sequence.ensures)
