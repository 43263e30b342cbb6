-- What a second is.
use Rattle.std.specs.Prelude.{ℕ}

-- in nanoseconds
abbrev pub second : ℕ
second = 1000000000
