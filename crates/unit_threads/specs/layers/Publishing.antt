-- What a publisher has done. No caller needs this file.
use Rattle.std.specs.Prelude.{◌≡◌, ℕ, ◌≤◌, Bool, true, List, length, nat_eq}
use Rattle.std.specs.Set.{is_member}
use mathlib.Core.List.{IsPrefix}
use Rattle.pitch_model.specs.Advertising.{Operation, accepted_by, advertised_by}
use Rattle.venue_core.specs.Plan.{plan}

-- the messages of a shared unit are fixed: the first of the plan
abbrev pub IsPlanned : Bool → List (List ℕ) → ℕ → ℕ → ℕ → Type 0
IsPlanned fixed messages number unit count = (fixed ≡ true) × (messages ≡ plan number unit count)

-- so many commands of the plan were accepted, and no more operations done than these
pub record HasAccepted (history : List Operation) (number unit index most : ℕ) : Type 0 where
  pub accepted : accepted_by history ≡ plan number unit index
  pub few : length history ≤ most

-- the image through a sequence was advertised
abbrev pub HasAdvertised : List Operation → ℕ → Type 0
HasAdvertised history sequence = is_member nat_eq (advertised_by history) sequence ≡ true

-- it begins with a history that has all commands of the plan, the image of all being advertised
pub record HasAll (history : List Operation) (number unit count : ℕ) : Type 0 where
  pub told : List Operation
  pub begins : IsPrefix told history
  pub accepted : accepted_by told ≡ plan number unit count
  pub advertised : HasAdvertised told count
