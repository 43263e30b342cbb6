-- How long a wait lasts at most.
use Rattle.std.specs.Prelude.{ℕ, ◌*◌, min, Option, Some, None, option_map}
use Rattle.std.specs.Duration.{as_nanos}
use Rattle.std.specs.declared.time.Duration.{Duration}

-- in nanoseconds, where it is limited
abbrev pub nanos_of : Option Duration → Option ℕ
nanos_of limit = option_map as_nanos limit

-- so many seconds in nanoseconds
abbrev pub nanos_in : ℕ → ℕ
nanos_in seconds = seconds * 1000000000

-- the shorter of two times, where there are limits
abbrev pub shorter_of : Option ℕ → Option ℕ → Option ℕ
shorter_of None b = b
shorter_of (Some a) None = Some a
shorter_of (Some a) (Some b) = Some (min a b)
