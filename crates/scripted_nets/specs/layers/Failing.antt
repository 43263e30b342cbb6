-- Which calls of a net in memory fail.
use Rattle.std.specs.Prelude.{◌≡◌, ℕ, ◌+◌, ◌-◌, ◌^◌, List, min, Contains}

-- the numbers of the calls that fail, and how many calls and faults there were
pub record Failing : Type 0 where
  pub listed : List ℕ
  pub count : ℕ
  pub faults : ℕ

-- one call more, counted up to the greatest number of its type
pub record IsNextCall (old new : Failing) : Type 0 where
  pub counted : new.count ≡ min (old.count + 1) (2 ^ 64 - 1)
  pub same_listed : new.listed ≡ old.listed

-- the last call is listed as one that fails
abbrev pub IsListed : Failing → Type 0
IsListed calls = Contains calls.listed calls.count
