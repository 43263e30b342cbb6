-- That it does not matter how a text is cut into pieces.
use Rattle.std.specs.Prelude.{◌≡◌, ◌⊎◌, ℕ, ◌+◌, List, [], ◌∷◌, ◌++◌, map, Result, Ok, Err}
use Rattle.std.specs.List.{concat, fold}
use Rattle.text_lines.specs.Reading.{LineReading}
use Rattle.text_lines.specs.Text.{TextFault, said_of, entries_of}
use Rattle.unit_commands.specs.Pieces.{line_feeds, whole_lines, last_line}
use Rattle.unit_commands.specs.Pieces.{piece_pushed, lines_passed, read_through}

-- a text that is empty or ends with a line feed
abbrev pub EndsLine : List ℕ → Type 0
EndsLine text = (text ≡ []) ⊎ ((front : List ℕ) × (text ≡ front ++ 10 ∷ []))

-- ---- cutting a text

-- a text is its whole lines and then its last line, which has no line feed
abbrev pub TextsAreCut : Type 0
TextsAreCut = (text : List ℕ) → (whole_lines text ++ last_line text ≡ text)
    × EndsLine (whole_lines text) × (line_feeds (last_line text) ≡ 0)

-- there is no other such cut
abbrev pub TextCutsAreOne : Type 0
TextCutsAreOne = (front back : List ℕ) → EndsLine front → line_feeds back ≡ 0
    → (whole_lines (front ++ back) ≡ front) × (last_line (front ++ back) ≡ back)

-- of a text that grows, the whole lines stay, and its last line alone is cut again
abbrev pub TextCutsGrow : Type 0
TextCutsGrow = (text piece : List ℕ)
    → (whole_lines (text ++ piece) ≡ whole_lines text ++ whole_lines (last_line text ++ piece))
    × (last_line (text ++ piece) ≡ last_line (last_line text ++ piece))

-- ---- reading in pieces

-- what one piece more leaves unread, once its whole lines were read
abbrev pub PieceIsRead : Type 0
PieceIsRead = (text piece : List ℕ)
    → lines_passed (piece_pushed (read_through text) piece) ≡ read_through (text ++ piece)

-- pieces that were read one after another leave what all bytes in one leave
abbrev pub PiecesAreRead : Type 0
PiecesAreRead = (pieces : List (List ℕ))
    → fold (λ unread piece. lines_passed (piece_pushed unread piece)) (read_through []) pieces
    ≡ read_through (concat pieces)

-- ---- what the pieces say

-- an entry so many lines later
abbrev pub entry_later : {A : Type 0} → ℕ → ℕ × A → ℕ × A
entry_later n entry = (n + entry.0, entry.1)

-- a fault so many lines later
abbrev pub fault_later : ℕ → TextFault → TextFault
fault_later n at = record { line = n + at.line; fault = at.fault }

-- what a line says, so many lines later
abbrev pub line_later : {A : Type 0} → ℕ → Result (ℕ × A) TextFault → Result (ℕ × A) TextFault
line_later n (Ok entry) = Ok (entry_later n entry)
line_later n (Err at) = Err (fault_later n at)

-- what these bytes say behind a text of whole lines
abbrev pub said_behind : {A : Type 0}
    → LineReading A → List ℕ → List ℕ → List (Result (ℕ × A) TextFault)
said_behind grammar text bytes = map (line_later (line_feeds text)) (said_of grammar bytes)

-- what a text says that begins with whole lines: what they say, and then what the others say, with
-- the lines before them counted
abbrev pub SaysInTurn : {A : Type 0} → LineReading A → Type 0
SaysInTurn grammar = (text more : List ℕ) → EndsLine text
    → said_of grammar (text ++ more) ≡ said_of grammar text ++ said_behind grammar text more

-- one piece more of a text adds what the lines say that it made whole
abbrev pub SaysByPieces : {A : Type 0} → LineReading A → Type 0
SaysByPieces grammar = (text piece : List ℕ)
    → said_of grammar (whole_lines (text ++ piece)) ≡ said_of grammar (whole_lines text)
    ++ said_behind grammar text (piece_pushed (read_through text) piece).whole

-- the end of a text adds what its last line says
abbrev pub SaysAtEnd : {A : Type 0} → LineReading A → Type 0
SaysAtEnd grammar = (text : List ℕ) → said_of grammar text
    ≡ said_of grammar (whole_lines text) ++ said_behind grammar text (read_through text).rest

-- a text that begins with whole lines has the entries of both parts, or the first fault of the two
pub record GivesInTurn {A : Type 0} (grammar : LineReading A) (text more : List ℕ) : Type 0 where
  pub first_fault : (at : TextFault) → entries_of grammar text ≡ Err at
      → entries_of grammar (text ++ more) ≡ Err at
  pub second_fault : (xs : List (ℕ × A)) (at : TextFault) → entries_of grammar text ≡ Ok xs
      → entries_of grammar more ≡ Err at
      → entries_of grammar (text ++ more) ≡ Err (fault_later (line_feeds text) at)
  pub all_entries : (xs ys : List (ℕ × A)) → entries_of grammar text ≡ Ok xs
      → entries_of grammar more ≡ Ok ys
      → entries_of grammar (text ++ more) ≡ Ok (xs ++ map (entry_later (line_feeds text)) ys)
