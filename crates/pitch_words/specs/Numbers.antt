-- A number in a word.
use Rattle.std.specs.Prelude.{◌≡◌, ℕ, ◌≤◌, length, Option, Some, None}
use Rattle.std.specs.Str.Parse.{IsNumeral, digits_value}
use Rattle.long_options.specs.Words.{Text}

-- 1 to 20 decimal digits that write n, which lies within the range
abbrev pub IsNumber : ℕ → ℕ → Text → ℕ → Type 0
IsNumber least most text n =
    IsNumeral 10 text × (length text ≤ 20) × (digits_value 10 text ≡ n) × (least ≤ n) × (n ≤ most)

-- an option was given with this number
abbrev pub IsGivenNumber : ℕ → ℕ → Option Text → ℕ → Type 0
IsGivenNumber least most (Some text) n = IsNumber least most text n
IsGivenNumber least most None n = ⊥

-- an option was given with this number, or wasn't given and n is its default
abbrev pub IsGivenOr : ℕ → ℕ → ℕ → Option Text → ℕ → Type 0
IsGivenOr default least most (Some text) n = IsNumber least most text n
IsGivenOr default least most None n = n ≡ default

-- an option was given with this number, or wasn't given and there is none
abbrev pub IsGivenMaybe : ℕ → ℕ → Option Text → Option ℕ → Type 0
IsGivenMaybe least most (Some text) (Some n) = IsNumber least most text n
IsGivenMaybe least most (Some text) None = ⊥
IsGivenMaybe least most None n = n ≡ None
