-- Books of a report that are compared before the report is gone through: those that it has out of
-- order.
use Rattle.std.specs.Prelude.{◌≡◌, ◌⊎◌, ℕ, ◌-◌, List, ◌++◌, length, drop}
use Rattle.pitch_model.specs.History.{Raw}
use Rattle.run_audit.specs.layers.Finding.{Names}
use Rattle.run_audit.specs.layers.Lines.{book_front, Parts}
use Rattle.run_audit.specs.Report.{IsPart, Printed, book_lines, lines_of}
use Rattle.run_audit.specs.declared.backward.AgreedBook.{AgreedBook}
use Rattle.run_audit.specs.declared.backward.Asked.{Asked}
use Rattle.run_audit.specs.declared.lines.Compared.{Compared}
use Rattle.run_audit.specs.declared.lines.Compared.TheVariants.{Same, Differs}

-- its lines are those of the report from its first one on
abbrev pub IsAsked : List (List ℕ) → Asked → Type 0
IsAsked all asked = asked.lines ≡ drop (asked.line - 1) all

-- a text has so many lines, and they stand first among these
abbrev pub BeginsWith : List (List ℕ) → List ℕ → ℕ → Type 0
BeginsWith lines text count =
    (left : List (List ℕ)) × (lines ≡ lines_of text ++ left) × (count ≡ length (lines_of text))

-- a book of a unit after its first n messages has so many lines, and they stand first among these
pub record Stands (Vs : ℕ → List Raw) (lines : List (List ℕ)) (count : ℕ) : Type 0 where
  pub unit : ℕ
  pub n : ℕ
  pub part : IsPart Vs (Printed unit n)
  pub left : List (List ℕ)
  pub lines_are : lines ≡ book_lines Vs unit n ++ left
  pub count_is : count ≡ length (book_lines Vs unit n)

-- a book stands in the report from that line on
abbrev pub IsAgreed : (ℕ → List Raw) → List (List ℕ) → AgreedBook → Type 0
IsAgreed Vs all agreed = Stands Vs (drop (agreed.line - 1) all) agreed.count

-- the first line of some lines can be the first of no book
abbrev pub NamesNone : (ℕ → List Raw) → List ℕ → Type 0
NamesNone Vs line =
    (unit n : ℕ) (more : List ℕ) → IsPart Vs (Printed unit n) → line ≡ book_front unit n ++ more → ⊥

-- a book stands first, and its lines are passed; or after so many lines of the book that the first
-- line names another stands there, which are none where it names no book
abbrev pub JudgesBook : (ℕ → List Raw) → List ℕ → (lines left : List (List ℕ)) → Compared → Type 0
JudgesBook Vs line lines left (Same count) = (stands : Stands Vs lines count) × (stands.left ≡ left)
JudgesBook Vs line lines left (Differs count) =
    ((count ≡ 0) × NamesNone Vs line)
    ⊎ ((book : List (List ℕ)) × Names Vs line book × Parts book lines count)
