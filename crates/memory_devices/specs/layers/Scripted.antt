-- Sources and sinks in memory, of which the maker says how much one call moves and which calls
-- fail.
use Rattle.std.specs.Prelude.{◌≡◌, ℕ, ◌+◌, ◌-◌, ◌^◌, List, length, min}
use Rattle.pitch_io.specs.declared.sink.Put.{Put}
use Rattle.pitch_io.specs.declared.sink.Put.TheVariants.{Wrote}
use Rattle.pitch_io.specs.declared.source.Taken.{Taken}
use Rattle.pitch_io.specs.declared.source.Taken.TheVariants.{Got, End, Failed}

-- such an end: the bytes left in a source or written to a sink, the most of one call, the numbers
-- of the calls that fail, and how many calls and faults there were
pub record Scripted : Type 0 where
  pub bytes : List ℕ
  pub piece : ℕ
  pub failing : List ℕ
  pub calls : ℕ
  pub faults : ℕ

-- one call more, counted up to the greatest number of its type, under the same script
pub record IsNextCall (old new : Scripted) : Type 0 where
  pub counted : new.calls ≡ min (old.calls + 1) (2 ^ 64 - 1)
  pub same_piece : new.piece ≡ old.piece
  pub same_failing : new.failing ≡ old.failing

-- a put writes as many bytes as the piece of one call allows
abbrev pub PutsMost : Scripted → Put → List ℕ → Type 0
PutsMost sink (Wrote n) piece = n ≡ min (length piece) sink.piece
PutsMost sink _ piece = Unit {0}

-- how many bytes were taken
abbrev pub count_of : Taken → ℕ
count_of (Got n) = n
count_of End = 0
count_of Failed = 0

-- a take gives as many of the bytes that are left as the piece of one call and the slice allow
abbrev pub TakesMost : List ℕ → ℕ → Taken → List ℕ → Type 0
TakesMost bytes piece (Got n) into = n ≡ min (min (length bytes) piece) (length into)
TakesMost bytes piece End into = Unit {0}
TakesMost bytes piece Failed into = Unit {0}
