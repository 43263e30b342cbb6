-- The fields of a message, which stand end to end: what each says, its bytes, and how it is read.
-- Standard: "Cboe US Equities Multicast PITCH specification", "Data Types".
use Rattle.std.specs.Prelude.{ℕ, zero, suc, ◌+◌, List, [], ◌∷◌, ◌++◌, slice_index, take, drop}
use Rattle.std.specs.Prelude.{Option, None, Some, Result, Ok, Err}
use Rattle.byteorder.specs.Endian.{little_bytes}
use Rattle.pitch_fields.specs.Fields.{number_at}
use Rattle.pitch_fields.specs.Side.{byte_of, side_of}
use Rattle.pitch_fields.specs.declared.side.Side.{Side}

-- what stands in a field: a number of so many bytes, the low one first; a side indicator; one byte;
-- so many bytes as they are; or so many reserved bytes, which are not read and are written as
-- spaces
pub data Field : Type 0 where
  Number : ℕ → Field
  SideByte : Field
  Byte : Field
  Text : ℕ → Field
  Reserved : ℕ → Field

-- how many bytes a field has
abbrev pub width : Field → ℕ
width (Number n) = n
width SideByte = 1
width Byte = 1
width (Text n) = n
width (Reserved n) = n

-- how many bytes fields have together
abbrev pub widths : List Field → ℕ
widths [] = 0
widths (field ∷ fields) = width field + widths fields

-- what a field says; reserved bytes say nothing
abbrev pub Value : Field → Type 0
Value (Number n) = ℕ
Value SideByte = Side
Value Byte = ℕ
Value (Text n) = List ℕ
Value (Reserved n) = Unit {0}

-- what fields say, one after another
abbrev pub Values : List Field → Type 0
Values [] = Unit {0}
Values (field ∷ fields) = Value field × Values fields

-- something that is made of what fields say
abbrev pub Makes : List Field → Type 0 → Type 0
Makes [] A = A
Makes (field ∷ fields) A = Value field → Makes fields A

-- what is made of values that are given one after another
abbrev pub given : {A : Type 0} (fields : List Field) → (Values fields → A) → Makes fields A
given [] make = make tt
given (field ∷ fields) make = λ value. given fields (λ values. make (value, values))

-- ---- Bytes
-- so many spaces
abbrev pub spaces : ℕ → List ℕ
spaces zero = []
spaces (suc n) = 32 ∷ spaces n

-- the bytes of a number, the low one first, as one thing
unfoldable pub number_bytes : ℕ → ℕ → List ℕ
number_bytes n number = little_bytes n number

-- the bytes of a field
abbrev pub bytes_of : (field : Field) → Value field → List ℕ
bytes_of (Number n) number = little_bytes n number
bytes_of SideByte side = byte_of side ∷ []
bytes_of Byte byte = byte ∷ []
bytes_of (Text n) text = text
bytes_of (Reserved n) nothing = spaces n

-- the bytes of fields, end to end
abbrev pub all_bytes : (fields : List Field) → Values fields → List ℕ
all_bytes [] values = []
all_bytes (field ∷ fields) values = bytes_of field values.0 ++ all_bytes fields values.1

-- ---- Reading
-- the n bytes from a place
abbrev pub bytes_at : ℕ → ℕ → List ℕ → List ℕ
bytes_at n at raw = take n (drop at raw)

-- the side of a byte, handed to what comes next; an error where it has none
abbrev pub with_side : {A E : Type 0} → (ℕ → E) → Option Side → ℕ → (Side → Result A E) → Result A E
with_side bad None byte next = Err (bad byte)
with_side bad (Some side) byte next = next side

-- what a field says at a place, handed to what comes next
abbrev pub with_field : {A E : Type 0} → (ℕ → E) → (field : Field) → ℕ → List ℕ
    → (Value field → Result A E) → Result A E
with_field bad (Number n) at raw next = next (number_at n at raw)
with_field bad SideByte at raw next =
    with_side bad (side_of (slice_index raw at)) (slice_index raw at) next
with_field bad Byte at raw next = next (slice_index raw at)
with_field bad (Text n) at raw next = next (bytes_at n at raw)
with_field bad (Reserved n) at raw next = next tt

-- what is made of what fields say that stand end to end from a place
abbrev pub with_fields : {A E : Type 0} → (ℕ → E) → (fields : List Field) → ℕ → List ℕ
    → Makes fields A → Result A E
with_fields bad [] at raw make = Ok make
with_fields bad (field ∷ fields) at raw make =
    with_field bad field at raw
    (λ value. with_fields bad fields (at + width field) raw (make value))
