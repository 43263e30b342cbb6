-- A hold with the floor n, of which `has` says what sequences it holds, against what was heard
-- since the last overflow.
use Rattle.std.specs.Prelude.{◌≡◌, ℕ, ◌≤◌, Bool, true, ◌&&◌, nat_lt}
use Rattle.pitch_model.specs.Reach.{SinceOverflow, Joined, is_anchor, is_seen, reach_of}

-- no anchor is above n
abbrev pub AnchorsUpTo : SinceOverflow → ℕ → Type 0
AnchorsUpTo P n = (s : ℕ) → is_anchor P s ≡ true → s ≤ n

-- the floor is the reach, and the hold is exactly what is held of what was heard
pub record Settled (P : SinceOverflow) (n : ℕ) (has : ℕ → Bool) : Type 0 where
  pub reach : reach_of P ≡ n
  pub held : (k : ℕ) → has k ≡ (nat_lt n k && is_seen P k)

-- the same, but the floor may be short of the reach
pub record Draining (P : SinceOverflow) (n : ℕ) (has : ℕ → Bool) : Type 0 where
  pub joined : Joined P n
  pub anchors : AnchorsUpTo P n
  pub held : (k : ℕ) → has k ≡ (nat_lt n k && is_seen P k)
