use Rattle.std.proofs.Common.{◌-◌, ◌≡◌, ℕ, ◌<◌, ◌≤◌, length, slice_get, Some}
use Rattle.hold_buffer.proofs.ring.search.Given as goal

abbrev pub invariant-loop-low : goal.invariant-loop-low
invariant-loop-low l = record {
  ordered : l.low ≤ l.high;
  within : l.high ≤ length l.order.items;
  before : (j : ℕ) (e : ℕ × ℕ) → j < l.low → slice_get l.order.items j ≡ Some e → e.0 < l.sequence;
  after : (j : ℕ) (e : ℕ × ℕ) → l.high ≤ j → slice_get l.order.items j ≡ Some e → l.sequence < e.0;
}

abbrev pub decreases-loop-low : goal.decreases-loop-low
decreases-loop-low l = l.high - l.low
