-- How large a storm may be.
use Rattle.std.specs.Prelude.{ℕ}

-- the most units of a storm
abbrev pub most_units : ℕ
most_units = 16

-- the most steps of a storm
abbrev pub most_steps : ℕ
most_steps = 10000
