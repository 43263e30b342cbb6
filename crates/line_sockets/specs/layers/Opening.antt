-- What a caller sees of lines over sockets.
use Rattle.std.specs.Prelude.{ℕ}

-- how many lines there are, and how often they or the wait failed
pub record OpenLines : Type 0 where
  pub lines : ℕ
  pub faults : ℕ
