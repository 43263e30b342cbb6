-- A printed report, and whether its books are those that the messages of the units leave.
use Rattle.std.specs.Prelude.{◌≡◌, ℕ, ◌-◌, ◌<◌, ◌≤◌, ◌==◌, Bool, true, false, ◌||◌, nat_eq, List}
use Rattle.std.specs.Prelude.{[], ◌∷◌, ◌++◌, length, take, map, codes, Option, None, Some, count_by}
use Rattle.std.specs.Prelude.{if◌then◌else◌}
use Rattle.std.specs.List.{flat_map, starts_with, AllByRecursion}
use Rattle.pitch_model.specs.Book.{book_after}
use Rattle.feed_lines.specs.BookText.{book_text}
use Rattle.pitch_model.specs.History.{Raw}
use Rattle.run_audit.specs.declared.verdict.Verdict.{Verdict}
use Rattle.run_audit.specs.declared.verdict.Verdict.TheVariants.{Yes, No}

-- ---- Lines
-- a byte in front of the first line, or a line of its own where there is none
abbrev pub in_front : ℕ → List (List ℕ) → List (List ℕ)
in_front byte [] = (byte ∷ []) ∷ []
in_front byte (line ∷ lines) = (byte ∷ line) ∷ lines

-- a text is cut at line feeds; a last line without one counts where it is not empty
unfoldable pub lines_of : List ℕ → List (List ℕ)
lines_of [] = []
lines_of (byte ∷ text) = if byte == 10 then [] ∷ lines_of text else in_front byte (lines_of text)

-- ---- Reports that agree
-- a line of a book that is not its first begins with one of these words
abbrev pub is_inner : List ℕ → Bool
is_inner line =
    starts_with nat_eq line (codes "order ") || starts_with nat_eq line (codes "status ")

-- the lines of a book begin so, and no other line does
abbrev pub is_of_book : List ℕ → Bool
is_of_book line = starts_with nat_eq line (codes "book ") || is_inner line

-- the lines of the book of a unit after its first n messages
abbrev pub book_lines : (ℕ → List Raw) → ℕ → ℕ → List (List ℕ)
book_lines Vs unit n = lines_of (book_text unit n (book_after (take n (Vs unit))))

-- a report is made of parts: a line that is passed over, or the book of a unit after its first n
-- messages
pub data Part : Type 0 where
  Passed : (line : List ℕ) → Part
  Printed : (unit : ℕ) → (n : ℕ) → Part

abbrev pub is_book : Part → Bool
is_book (Passed line) = false
is_book (Printed unit n) = true

abbrev pub part_lines : (ℕ → List Raw) → Part → List (List ℕ)
part_lines Vs (Passed line) = line ∷ []
part_lines Vs (Printed unit n) = book_lines Vs unit n

-- no line of a book is passed over; a header can name the unit of a book, and the unit has so many
-- messages
abbrev pub IsPart : (ℕ → List Raw) → Part → Type 0
IsPart Vs (Passed line) = is_of_book line ≡ false
IsPart Vs (Printed unit n) = (unit < 256) × (n ≤ length (Vs unit))

-- the report agrees with the messages of the units, and has so many books
pub record Agrees (Vs : ℕ → List Raw) (lines : List (List ℕ)) (books : ℕ) : Type 0 where
  pub parts : List Part
  pub are : AllByRecursion (IsPart Vs) parts
  pub made : lines ≡ flat_map (part_lines Vs) parts
  pub count : books ≡ count_by is_book parts

-- ---- The first line that does not agree
-- the lines of a report, and behind them its end
abbrev pub with_end : List (List ℕ) → List (Option (List ℕ))
with_end lines = map Some lines ++ None ∷ []

-- two reports are the same up to and with line k; the end of a report counts as the line behind its
-- last one
abbrev pub SameThrough : ℕ → List (List ℕ) → List (List ℕ) → Type 0
SameThrough k lines others = take k (with_end lines) ≡ take k (with_end others)

-- the lines before this one are those of some report that agrees, and with this one they are those
-- of none
pub record IsFirstWrong (Vs : ℕ → List Raw) (lines : List (List ℕ)) (k : ℕ) : Type 0 where
  pub other : List (List ℕ)
  pub books : ℕ
  pub agrees : Agrees Vs other books
  pub before : SameThrough (k - 1) other lines
  pub wrong : (others : List (List ℕ)) (books : ℕ)
      → Agrees Vs others books → SameThrough k others lines → ⊥

-- what is said of a report
unfoldable pub Judges : (ℕ → List Raw) → List (List ℕ) → Verdict → Type 0
Judges Vs lines (Yes books) = Agrees Vs lines books
Judges Vs lines (No line) = IsFirstWrong Vs lines line
