-- How an array of C's is filled with the items of a list.
use Rattle.std.specs.Prelude.{◌≡◌, ℕ, List, ◌++◌, length, take, drop}

-- as many items as fit stand at its start, and behind them what stood there
abbrev pub filled : {T : Type 0} → List T → List T → List T
filled items old = take (length old) items ++ drop (length items) old

-- an array is filled so, and this is how many items there are
pub record Fills {T : Type 0} (items old new : List T) (number : ℕ) : Type 0 where
  pub array : new ≡ filled items old
  pub number_is : number ≡ length items
