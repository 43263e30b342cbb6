-- What the bytes of a field say.
use Rattle.std.specs.Prelude.{ℕ, ◌+◌, ◌*◌, ◌-◌, ◌^◌, ◌==◌, ◌&&◌, Bool, false, nat_eq, nat_lt}
use Rattle.std.specs.Prelude.{nat_le, List, [], ◌∷◌, ◌++◌, length, replicate, Option, Some, None}
use Rattle.std.specs.Prelude.{if◌then◌else◌}
use Rattle.std.specs.List.{list_all, before_first, after_first, position_or_len}
use Rattle.std.specs.Cmp.Lexicographic.{pointwise}
use Rattle.std.specs.Char.{is_ascii_digit}
use Rattle.std.specs.Str.Parse.{digits_value}
use Rattle.std.specs.Option.{option_and_then, option_map}
use Rattle.pitch_fields.specs.declared.side.Side.{Side}
use Rattle.pitch_fields.specs.Name.{is_printing}
use Rattle.pitch_fields.specs.Side.{side_of}

-- ---- numbers

-- the number that 1 to so many digits write
abbrev pub digits_of : ℕ → List ℕ → Option ℕ
digits_of most bytes =
    if nat_lt 0 (length bytes) && nat_le (length bytes) most && list_all is_ascii_digit bytes
    then Some (digits_value 10 bytes) else None

-- a number, where it lies in a range
abbrev pub within : ℕ → ℕ → ℕ → Option ℕ
within low high n = if nat_le low n && nat_le n high then Some n else None

-- a number of a range: 1 to 20 digits
abbrev pub number_of : ℕ → ℕ → List ℕ → Option ℕ
number_of low high bytes = option_and_then (within low high) (digits_of 20 bytes)

-- an offset in nanoseconds, below a second
abbrev pub offset_of : List ℕ → Option ℕ
offset_of = number_of 0 999999999

-- a number of a range, or nothing where the word in its place stands
abbrev pub number_or : List ℕ → ℕ → ℕ → List ℕ → Option (Option ℕ)
number_or word low high bytes =
    if pointwise nat_eq bytes word
    then Some None else option_map (λ n. Some n) (number_of low high bytes)

-- whether a field is meant as a number
abbrev pub begins_with_digit : List ℕ → Bool
begins_with_digit [] = false
begins_with_digit (b ∷ _) = is_ascii_digit b

-- ---- sides

-- the side of a field that is one byte, `B` or `S`
abbrev pub side_in : List ℕ → Option Side
side_in (b ∷ []) = side_of b
side_in _ = None

-- ---- bytes

-- the byte of a field that is one printing byte
abbrev pub byte_in : List ℕ → Option ℕ
byte_in (b ∷ []) = if is_printing b then Some b else None
byte_in _ = None

-- ---- symbols and participants

-- 1 to so many printing bytes, and spaces after them up to that width
abbrev pub padded_of : ℕ → List ℕ → Option (List ℕ)
padded_of width bytes =
    if nat_lt 0 (length bytes) && nat_le (length bytes) width && list_all is_printing bytes
    then Some (bytes ++ replicate (width - length bytes) 32) else None

-- the eight bytes of a symbol
abbrev pub symbol_of : List ℕ → Option (List ℕ)
symbol_of = padded_of 8

-- the four bytes of a participant
abbrev pub participant_of : List ℕ → Option (List ℕ)
participant_of = padded_of 4

-- ---- prices

-- the ten-thousandths that 1 to 4 digits after the point write
abbrev pub fraction_of : List ℕ → Option ℕ
fraction_of digits = option_map (λ n. n * 10 ^ (4 - length digits)) (digits_of 4 digits)

-- the point of a price
abbrev pub is_point : ℕ → Bool
is_point b = b == 46

-- whole dollars, and the ten-thousandths after the point
abbrev pub price_sum : Option ℕ → Option ℕ → Option ℕ
price_sum whole fraction = option_and_then (λ n. option_map (λ m. n * 10000 + m) fraction) whole

-- 1 to 16 digits, then nothing, or a point and 1 to 4 digits; in ten-thousandths it fits 64 bits
abbrev pub price_in : List ℕ → Option ℕ
price_in bytes =
    let whole = digits_of 16 (before_first is_point bytes) in
    let fraction = if nat_lt (position_or_len is_point bytes) (length bytes)
    then fraction_of (after_first is_point bytes) else Some 0 in
    option_and_then (within 0 (2 ^ 64 - 1)) (price_sum whole fraction)
