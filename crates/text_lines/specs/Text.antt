-- A text as lines, what they say one after another, and its first fault.
use Rattle.std.specs.Prelude.{ℕ, ◌+◌, ◌==◌, Bool, true, nat_eq, nat_lt, List, [], ◌∷◌, length, map}
use Rattle.std.specs.Prelude.{Option, Some, None, Result, Ok, Err, codes, if◌then◌else◌}
use Rattle.std.specs.List.{slice_split, starts_with, cons_option}
use Rattle.std.specs.Str.Lines.{strip_carriage_return}
use Rattle.text_lines.specs.declared.fault.Fault.{Fault}
use Rattle.text_lines.specs.declared.fault.TextCause.TheVariants.{LongLine}
use Rattle.text_lines.specs.Fields.{Field, Rest, fields_of}
use Rattle.text_lines.specs.Reading.{LineReading, fault_in_column}

-- ---- one line

-- a line of spaces only, or whose first byte after them is `#`
abbrev pub is_skipped : List Field → Bool
is_skipped [] = true
is_skipped (f ∷ fields) = starts_with nat_eq f.bytes (codes "#")

-- the fault of a line of more than 200 bytes
abbrev pub too_long : Fault
too_long = fault_in_column 201 LongLine

-- the leftmost fault of such a line: one that the grammar finds up to column 200, or that it is too
-- long
abbrev pub long_fault : {A : Type 0} → Result (A × Rest) Fault → Fault
long_fault (Ok x) = too_long
long_fault (Err f) = if nat_lt f.column 201 then f else too_long

-- what was read of a whole line
abbrev pub value_read : {A : Type 0} → Result (A × Rest) Fault → Result (Option A) Fault
value_read (Ok x) = Ok (Some x.0)
value_read (Err f) = Err f

-- what a line says: nothing where it is skipped, or its first fault
abbrev pub line_of : {A : Type 0} → LineReading A → List ℕ → Result (Option A) Fault
line_of grammar line =
    let fields = fields_of line in
    let read = grammar (record { past = 1; fields = fields }) in
    if is_skipped fields then (if nat_lt 200 (length line) then Err too_long else Ok None)
    else if nat_lt 200 (length line) then Err (long_fault read) else value_read read

-- ---- the lines of a text

-- The lines between line feeds, each without one carriage return at its end. An empty part after
-- the last line feed is skipped like any line of spaces only.
abbrev pub lines_of : List ℕ → List (List ℕ)
lines_of text = map strip_carriage_return (slice_split (λ b. b == 10) text)

-- the number of a line, counted from 1, and the fault in it
pub record TextFault : Type 0 where
  pub line : ℕ
  pub fault : Fault

-- what a line with this number says: its entry, or the fault in it; nothing where it is skipped
abbrev pub said_on : {A : Type 0} → ℕ → Result (Option A) Fault → Option (Result (ℕ × A) TextFault)
said_on n (Err f) = Some (Err (record { line = n; fault = f }))
said_on n (Ok None) = None
said_on n (Ok (Some x)) = Some (Ok (n, x))

-- what the lines from a number on say, one after another; those that are skipped are left out
abbrev pub said_from : {A : Type 0}
    → LineReading A → ℕ → List (List ℕ) → List (Result (ℕ × A) TextFault)
said_from grammar n [] = []
said_from grammar n (line ∷ lines) =
    cons_option (said_on n (line_of grammar line)) (said_from grammar (n + 1) lines)

-- what the lines of a text say, each with its number: its entry, or the fault in it. A fault does
-- not end the list.
unfoldable pub said_of : {A : Type 0} → LineReading A → List ℕ → List (Result (ℕ × A) TextFault)
said_of grammar text = said_from grammar 1 (lines_of text)

-- one more before them, or the fault among them
abbrev pub with_front : {X E : Type 0} → X → Result (List X) E → Result (List X) E
with_front x (Ok xs) = Ok (x ∷ xs)
with_front x (Err f) = Err f

-- all of them, or the first fault among them
abbrev pub all_of : {X E : Type 0} → List (Result X E) → Result (List X) E
all_of [] = Ok []
all_of (Ok x ∷ rest) = with_front x (all_of rest)
all_of (Err f ∷ rest) = Err f

-- what the lines of a text say, each with its number, or the text's first fault
unfoldable pub entries_of : {A : Type 0} → LineReading A → List ℕ → Result (List (ℕ × A)) TextFault
entries_of grammar text = all_of (said_of grammar text)
