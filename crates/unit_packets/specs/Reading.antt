-- What a reader of a stream knows.
use Rattle.std.specs.Prelude.{ℕ, List}

-- a place in the stream, and the bytes that were loaded from there on
pub record Reading : Type 0 where
  pub place : ℕ
  pub rest : List ℕ
