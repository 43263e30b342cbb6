-- The lines of a text one at a time.
use Rattle.std.specs.Prelude.{◌≡◌, ◌⊎◌, ℕ, List, [], ◌∷◌, ◌++◌, map, Result, Ok, Err}
use Rattle.text_lines.specs.declared.fault.TextError.{TextError}
use Rattle.text_lines.specs.declared.fault.TextError.TheVariants as errors
use Rattle.text_lines.specs.Reading.{LineReading, fault_in_column}
use Rattle.text_lines.specs.Text.{lines_of, TextFault, said_from, said_of}

-- a first line without its line end, and the bytes after that: none where the text has no more
-- lines
abbrev pub IsFirstLine : List ℕ → List ℕ → List ℕ → Type 0
IsFirstLine text line behind =
    (lines_of text ≡ line ∷ lines_of behind) ⊎ ((lines_of text ≡ line ∷ []) × (behind ≡ []))

-- ---- what a call answers

-- the text has no fault, and its entries were appended to a list
abbrev pub AppendsEntries : {X Y : Type 0}
    → (X → Y) → Result (List X) TextFault → List Y → List Y → Type 0
AppendsEntries {X} entry read old new = (xs : List X) × (read ≡ Ok xs) × (new ≡ old ++ map entry xs)

-- a call's error is the text's first fault; want of memory tells nothing of the text
abbrev pub IsFirstFault : {X : Type 0} → Result (List X) TextFault → TextError → Type 0
IsFirstFault read errors.OutOfMemory = Unit {0}
IsFirstFault read (errors.Bad line column cause) =
    read ≡ Err (record { line = line; fault = fault_in_column column cause })

-- what a line says as a caller sees it: its entry, or the error
abbrev pub item_of : {X Y : Type 0} → (X → Y) → Result X TextFault → Result Y TextError
item_of entry (Ok x) = Ok (entry x)
item_of entry (Err at) = Err (errors.Bad at.line at.fault.column at.fault.cause)

-- what the lines from a number on say, as a caller sees it
abbrev pub items_from : {A Y : Type 0}
    → LineReading A → (ℕ × A → Y) → ℕ → List ℕ → List (Result Y TextError)
items_from grammar entry n text = map (item_of entry) (said_from grammar n (lines_of text))

-- what the lines of a text say, as a caller sees it: an item for each line that is not skipped
unfoldable pub items_of : {A Y : Type 0}
    → LineReading A → (ℕ × A → Y) → List ℕ → List (Result Y TextError)
items_of grammar entry text = map (item_of entry) (said_of grammar text)
