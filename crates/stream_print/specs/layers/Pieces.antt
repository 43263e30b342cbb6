-- What a take of a bounded number of bytes says.
use Rattle.std.specs.Prelude.{ℕ, ◌<◌, ◌≤◌, List, length}
use Rattle.pitch_io.specs.declared.source.Taken.{Taken}
use Rattle.pitch_io.specs.declared.source.Taken.TheVariants.{Got, End, Failed}

-- where bytes were taken, from 1 to as many as were asked for, within the buffer
abbrev pub IsBetween : Taken → ℕ → List ℕ → Type 0
IsBetween (Got n) most buffer = (0 < n) × (n ≤ most) × (n ≤ length buffer)
IsBetween End most buffer = Unit {0}
IsBetween Failed most buffer = Unit {0}
