-- How large a drill may be, and how many of the last messages its proxies keep.
use Rattle.std.specs.Prelude.{ℕ}

-- a drill has at most so many units
abbrev pub most_drill_units : ℕ
most_drill_units = 16

-- and at most so many commands of the plan for each
abbrev pub most_drilled : ℕ
most_drilled = 100000

-- a gap store keeps so many messages, and a client holds so many
abbrev pub drill_kept : ℕ
drill_kept = 4096
