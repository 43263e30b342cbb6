-- Reading a line's fields from the left, up to the first fault.
use Rattle.std.specs.Prelude.{◌≡◌, ℕ, ◌-◌, ◌^◌, List, [], ◌∷◌, Option, Some, None, Result, Ok, Err}
use Rattle.std.specs.Prelude.{if◌then◌else◌}
use Rattle.text_lines.specs.declared.fault.TextCause.{TextCause}
use Rattle.text_lines.specs.declared.fault.TextCause.TheVariants.{MissingField, BadWord, BadNumber}
use Rattle.text_lines.specs.declared.fault.TextCause.TheVariants.{BadPrice, BadSymbol}
use Rattle.text_lines.specs.declared.fault.Fault.{Fault}
use Rattle.pitch_fields.specs.declared.side.Side.{Side}
use Rattle.text_lines.specs.Kinds.{number_of, number_or, begins_with_digit, byte_in, side_in}
use Rattle.text_lines.specs.Kinds.{symbol_of, price_in}
use Rattle.text_lines.specs.Fields.{Field, Rest, rest_after}

-- a value and what is left of the line, or the first fault
abbrev pub LineReading : Type 0 → Type 0
LineReading A = Rest → Result (A × Rest) Fault

-- what was read, and then what the value makes of the rest
abbrev pub then_read : {A B : Type 0}
    → Result (A × Rest) Fault → (A → LineReading B) → Result (B × Rest) Fault
then_read (Ok x) next = next x.0 x.1
then_read (Err f) next = Err f

infixl 10 ◌>>=◌
-- one reading after the other
abbrev pub ◌>>=◌ : {A B : Type 0} → LineReading A → (A → LineReading B) → LineReading B
(read >>= next) rest = then_read (read rest) next

-- a value, with nothing read
abbrev pub gives : {A : Type 0} → A → LineReading A
gives x rest = Ok (x, rest)

-- a fault at a column
abbrev pub fault_in_column : ℕ → TextCause → Fault
fault_in_column column cause = record { column = column; cause = cause }

-- a value, or this fault
abbrev pub or_fault : {A : Type 0} → Option A → ℕ → TextCause → Rest → Result (A × Rest) Fault
or_fault None column cause rest = Err (fault_in_column column cause)
or_fault (Some x) column cause rest = Ok (x, rest)

-- a required field, where bytes without a meaning have a cause that they choose. A missing field is
-- missed one past what was read.
abbrev pub choice_on : {A : Type 0}
    → (List ℕ → Option A) → (List ℕ → TextCause) → ℕ → List Field → Result (A × Rest) Fault
choice_on meaning cause past [] = Err (fault_in_column past MissingField)
choice_on meaning cause past (f ∷ fields) =
    or_fault (meaning f.bytes) f.column (cause f.bytes) (rest_after f fields)

-- the same of what is left of a line
abbrev pub choice : {A : Type 0} → (List ℕ → Option A) → (List ℕ → TextCause) → LineReading A
choice meaning cause rest = choice_on meaning cause rest.past rest.fields

-- a required field: what its bytes say, or this cause at its first byte
abbrev pub field : {A : Type 0} → (List ℕ → Option A) → TextCause → LineReading A
field meaning cause = choice meaning (λ _. cause)

-- ---- required fields of each kind

-- a number of a range
abbrev pub number : ℕ → ℕ → LineReading ℕ
number low high = field (number_of low high) BadNumber

-- A number of 32 bits, or the word in its place. A field that begins with a digit is meant as a
-- number.
abbrev pub count_or : List ℕ → ℕ → LineReading (Option ℕ)
count_or word low = choice (number_or word low (2 ^ 32 - 1))
    (λ bytes. if begins_with_digit bytes then BadNumber else BadWord)

-- a side
abbrev pub side_field : LineReading Side
side_field = field side_in BadWord

-- one printing byte
abbrev pub byte_field : LineReading ℕ
byte_field = field byte_in BadWord

-- the eight bytes of a symbol
abbrev pub symbol_field : LineReading (List ℕ)
symbol_field = field symbol_of BadSymbol

-- a price in ten-thousandths
abbrev pub price_field : LineReading ℕ
price_field = field price_in BadPrice

-- ---- the code

-- what a function of the code returned, and where it left the line, is what reading gives
abbrev pub Reads : {A : Type 0} → Result (A × Rest) Fault → Result A Fault → Rest → Type 0
Reads read (Ok x) rest = read ≡ Ok (x, rest)
Reads read (Err f) rest = read ≡ Err f
