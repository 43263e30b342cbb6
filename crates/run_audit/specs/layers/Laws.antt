-- Laws of reports: of the first wrong line, and of verdicts.
use Rattle.std.specs.Prelude.{◌≡◌, ℕ, ◌+◌, ◌<◌, ◌^◌, true, List, ◌∷◌, ◌++◌, length}
use Rattle.pitch_model.specs.History.{Raw}
use Rattle.run_audit.specs.layers.Backward.{NamesNone}
use Rattle.run_audit.specs.layers.Finding.{Names, Reads}
use Rattle.run_audit.specs.layers.Lines.{Parts}
use Rattle.run_audit.specs.Report.{Agrees, IsFirstWrong, Judges, SameThrough, is_of_book}
use Rattle.run_audit.specs.declared.verdict.Verdict.{Verdict}

-- no unit has more messages than there are sequences, as in each log
abbrev pub AreFew : (ℕ → List Raw) → Type 0
AreFew Vs = (unit : ℕ) → length (Vs unit) < 2 ^ 32

-- behind lines that agree, the first wrong line is that of what follows
abbrev pub AreFoundPartByPart : (ℕ → List Raw) → Type 0
AreFoundPartByPart Vs =
    (done rest : List (List ℕ)) (books k : ℕ) → Agrees Vs done books
    → (begun : List (List ℕ)) (all : ℕ) → Agrees Vs (done ++ begun) all → SameThrough k begun rest
    → ((other : List (List ℕ)) (left : ℕ)
    → Agrees Vs other left → SameThrough (k + 1) other rest → ⊥)
    → IsFirstWrong Vs (done ++ rest) (length done + k + 1)

-- there a line that only a book has is wrong where it can be the first of none
abbrev pub AreWrongFirst : (ℕ → List Raw) → Type 0
AreWrongFirst Vs =
    (all lines rest : List (List ℕ)) (line : List ℕ) (books number : ℕ)
    → Reads Vs all lines books number
    → lines ≡ line ∷ rest → is_of_book line ≡ true → NamesNone Vs line → IsFirstWrong Vs all number

-- and where it is the first of a book, the first line that is not the book's is wrong
abbrev pub AreWrongWithin : (ℕ → List Raw) → Type 0
AreWrongWithin Vs =
    (all lines rest book : List (List ℕ)) (line : List ℕ) (books number count : ℕ)
    → Reads Vs all lines books number
    → lines ≡ line ∷ rest → is_of_book line ≡ true → Names Vs line book → Parts book lines count
    → IsFirstWrong Vs all (number + count)

-- a report gets one verdict at most
abbrev pub VerdictIsOne : (ℕ → List Raw) → Type 0
VerdictIsOne Vs =
    (lines : List (List ℕ)) (v w : Verdict) → Judges Vs lines v → Judges Vs lines w → v ≡ w
