-- Symbols and participants: bytes of a fixed number, with spaces at their end.
-- Standard: "Cboe US Equities Multicast PITCH specification", "Data Types".
use Rattle.std.specs.Prelude.{ℕ, ◌+◌, ◌/◌, ◌%◌, Bool, not, ◌==◌, ◌&&◌, ◌||◌, nat_lt, nat_le, List}
use Rattle.std.specs.Prelude.{[], ◌∷◌, take, drop, Option, None, Some, codes, if◌then◌else◌}
use Rattle.std.specs.List.{flat_map, list_all}

-- the code of a hexadecimal digit, in lower case
abbrev pub hex_digit : ℕ → ℕ
hex_digit d = if nat_lt d 10 then 48 + d else 87 + d

-- a byte by two hexadecimal digits
abbrev pub hex_text : ℕ → List ℕ
hex_text byte = hex_digit (byte / 16) ∷ hex_digit (byte % 16) ∷ []

-- a printing byte other than the space and the backslash
abbrev pub is_printing : ℕ → Bool
is_printing b = nat_le 33 b && (nat_le b 126 && not (b == 92))

-- a byte as it is shown: as itself, or as `\x` and two hexadecimal digits
abbrev pub shown_byte : ℕ → List ℕ
shown_byte b = if is_printing b then b ∷ [] else 92 ∷ 120 ∷ hex_text b

-- all of the bytes are spaces
abbrev pub is_blank : List ℕ → Bool
is_blank bytes = list_all (λ b. b == 32) bytes

-- all but the spaces at the end
abbrev pub without_spaces : List ℕ → List ℕ
without_spaces [] = []
without_spaces (b ∷ bs) = if is_blank (b ∷ bs) then [] else b ∷ without_spaces bs

-- some printing bytes, and then spaces alone
abbrev pub is_well_formed : List ℕ → Bool
is_well_formed bytes = not (is_blank bytes) && list_all is_printing (without_spaces bytes)

-- four spaces, which name no participant
abbrev pub no_participant : List ℕ
no_participant = 32 ∷ 32 ∷ 32 ∷ 32 ∷ []

-- spaces alone, or well formed as a symbol is
abbrev pub is_participant : List ℕ → Bool
is_participant name = is_blank name || is_well_formed name

-- the first six of eight bytes, where the last two are spaces
abbrev pub six_of : List ℕ → Option (List ℕ)
six_of bytes = if is_blank (drop 6 bytes) then Some (take 6 bytes) else None

-- a name as it is shown: without the spaces at its end; one that is all spaces as one of them
unfoldable pub name_shown : List ℕ → List ℕ
name_shown bytes =
    if is_blank bytes then codes "\\x20" else flat_map shown_byte (without_spaces bytes)
