-- Sources and sinks in memory that never fail.
use Rattle.std.specs.Prelude.{◌≡◌, ℕ, ◌+◌, ◌<◌, ◌≤◌, List, ◌++◌, length, Option, None, Some, Bool}
use Rattle.std.specs.Prelude.{false, if◌then◌else◌}

-- such a source: the bytes that are left, and the most of one take
pub record SteadyLeft : Type 0 where
  pub bytes : List ℕ
  pub piece : ℕ

-- such a sink: its room, the bytes that it keeps, and whether it tells them
pub record SteadyKept : Type 0 where
  pub room : ℕ
  pub bytes : List ℕ
  pub told : Bool

-- the bytes that were written, where the sink tells them
abbrev pub told_bytes : SteadyKept → Option (List ℕ)
told_bytes sink = if sink.told then Some sink.bytes else None

-- a piece that fits into the room is added to the bytes; one that does not is dropped, and nothing
-- is told again
pub record KeepsWhatFits (old new : SteadyKept) (piece : List ℕ) : Type 0 where
  pub fits : length old.bytes + length piece ≤ old.room
      → (new.bytes ≡ old.bytes ++ piece) × (new.told ≡ old.told)
  pub drops : old.room < length old.bytes + length piece
      → (new.bytes ≡ old.bytes) × (new.told ≡ false)
