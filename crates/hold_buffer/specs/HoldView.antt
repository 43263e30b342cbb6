-- What a hold is seen as: its floor, its limit, and the messages that it holds by their sequences.
use Rattle.std.specs.Prelude.{ℕ, List}
use Rattle.std.specs.Ordering.{nat_cmp}
use Rattle.std.specs.FinMap as map

-- the held raw messages by their sequences
abbrev pub Held : Type 0
Held = map.FinMap nat_cmp (List ℕ)

-- Messages above the floor are held; the one that follows it is awaited next.
pub record HoldView : Type 0 where
  pub floor : ℕ
  pub limit : ℕ
  pub held : Held
