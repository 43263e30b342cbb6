-- How long a line is.
use Rattle.std.specs.Prelude.{ℕ}

-- how many bytes a line has at most, its end included
abbrev pub line_size : ℕ
line_size = 512
