-- What a device tells of its bytes before and after a run: a source those that are left, a sink
-- those that were written.
use Rattle.std.specs.Prelude.{◌≡◌, ◌≤◌, ℕ, List, length, Option}
use Rattle.std.specs.Io.KnownBytes.{Consumes}

pub record Told : Type 0 where
  pub old : Option (List ℕ)
  pub new : Option (List ℕ)

abbrev pub between : Option (List ℕ) → Option (List ℕ) → Told
between before after = record { old = before; new = after }

-- what an object told before and after
abbrev pub told : {T : Type 0} → (T → Option (List ℕ)) → T → T → Told
told tells before after = between (tells before) (tells after)

-- nothing was read, or nothing was written
abbrev pub IsUntouched : Told → Type 0
IsUntouched device = device.new ≡ device.old

-- the bytes that a source gave, which begin those that it told of, are no more than so many
pub record TakesAtMost (most : ℕ) (input : Told) : Type 0 where
  pub taken : List ℕ
  pub read : Consumes input.old input.new taken
  pub within : length taken ≤ most
