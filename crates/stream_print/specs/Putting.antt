-- What was written to a sink.
use Rattle.std.specs.Prelude.{◌≤◌, ℕ, List, length, take, Option}
use Rattle.pitch_io.specs.Putting.{Grows}

-- some prefix of the bytes was written
pub record PutsSome (old new : Option (List ℕ)) (bytes : List ℕ) : Type 0 where
  pub count : ℕ
  pub within : count ≤ length bytes
  pub grows : Grows old new (take count bytes)
