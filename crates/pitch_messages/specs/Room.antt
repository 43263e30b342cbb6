-- Lists that can take memory ahead.
use Rattle.std.specs.Prelude.{ℕ, List}

-- the items of a list, and a number of pushes for which it has the memory
pub record Roomy (A : Type 0) : Type 0 where
  pub items : List A
  pub spare : ℕ
