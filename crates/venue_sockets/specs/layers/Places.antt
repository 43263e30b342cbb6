-- The places to which clients are let in.
use Rattle.std.specs.Prelude.{ℕ, ◌/◌}

-- the door of a place, where so many places in turn are of one door
abbrev pub door_of : (place each : ℕ) → ℕ
door_of place each = place / each
