-- The rule of the book that all threads share, and what its steps tell.
use Rattle.std.specs.Prelude.{ℕ, ◌≡◌, ◌+◌, ◌-◌, ◌==◌, ◌<◌, ◌≤◌, Bool, true, List, [], ◌∷◌, ◌++◌}
use Rattle.std.specs.Prelude.{length, slice_index, MatchBool}
use mathlib.Core.List.{IsPrefix}
use Rattle.logbook.specs.Pages.{Cell, cell, Step, View, Book, Named, Nib, may_write, may_make}
use Rattle.shared_unit.specs.layers.Histories.{IsLegal}
use Rattle.shared_unit.specs.layers.Moments.{Moment, HappensAfter, history_in, rights_in}
use Rattle.shared_unit.specs.layers.Moments.{published_in}

-- the first word is the number of rights that were given, of which all but the last were taken; the
-- second is how many operations of the history, which is legal, were published
pub record KeepsHistory (fixed : Bool)
    (plan : List (List ℕ)) (cells : List Cell) (log : List Moment) : Type 0 where
  pub more : List Cell
  pub words : cells ≡ (length (rights_in log), true) ∷ (published_in log, true) ∷ more
  pub legal : IsLegal fixed plan (history_in log)
  pub order : published_in log ≤ length (history_in log)
  pub taken : (place : ℕ) → place + 1 < length (rights_in log)
      → (cell cells (slice_index (rights_in log) place)).1 ≡ true

-- the word with the number of rights
abbrev pub rights_word : Book → Named
rights_word b = record { tracked = true; key = 0; book = b }

-- the word with the number of operations that were published
abbrev pub published_word : Book → Named
published_word b = record { tracked = true; key = 1; book = b }

-- ---- The right to add
-- the right that was given last is this pen. Its cell is not at home, so it was not taken, and
-- nobody else can add to the history
pub record HasRight (log : List Moment) (nib : Nib) : Type 0 where
  pub may : nib.right ≡ may_write
  pub some : 0 < length (rights_in log)
  pub last : slice_index (rights_in log) (length (rights_in log) - 1) ≡ nib.key

-- who has it has seen the whole history, which is legal. There was a right for each operation, and
-- the first
pub record MayAdd (fixed : Bool)
    (plan : List (List ℕ)) (log : List Moment) (nib : Nib) : Type 0 where
  pub has : HasRight log nib
  pub one : length (rights_in log) ≡ length (history_in log) + 1
  pub legal : IsLegal fixed plan (history_in log)

-- ---- Steps
-- the first right was given, where none was
abbrev pub GivesFirst : Step Moment → View Moment ℕ → ℕ → View Moment ℕ → Type 0
GivesFirst s v found w =
    MatchBool (found == s.old) ((history_in w.0 ≡ []) × (rights_in w.0 ≡ w.1.0.key ∷ [])
    × (w.1.0.right ≡ may_make)) (Unit {0})

-- there is one cell more
abbrev pub MakesCell : Step Moment → View Moment ℕ → ℕ → View Moment ℕ → Type 0
MakesCell s v found w = w.1.0.right ≡ may_make

-- the operation was added to the history that had been seen, which was the whole one
abbrev pub AddsOperation : Bool
    → List (List ℕ) → Step Moment → View Moment ℕ → ℕ → View Moment ℕ → Type 0
AddsOperation fixed plan s v found w =
    (history_in w.0 ≡ history_in v.0 ++ history_in (s.ask ∷ []))
    × (rights_in w.0 ≡ rights_in v.0 ++ rights_in (s.ask ∷ []))
    × IsLegal fixed plan (history_in w.0)

-- who has the right has seen the whole history
abbrev pub SeesWhole : Step Moment → View Moment ℕ → ℕ → View Moment ℕ → Type 0
SeesWhole s v found w =
    (w.1.0 ≡ v.1.0) × ((own : List Moment) → IsPrefix own v.0 → HasRight own v.1.0
    → history_in w.0 ≡ history_in own)

-- where at least so many operations were published, one more is then
abbrev pub PublishesNext : Step Moment → View Moment ℕ → ℕ → View Moment ℕ → Type 0
PublishesNext s v found w = s.old ≤ published_in v.0 → s.new ≤ published_in w.0

-- an answer begins, and tells how many operations were published by then
abbrev pub BeginsAnswer : Step Moment → View Moment ℕ → ℕ → View Moment ℕ → Type 0
BeginsAnswer s v found w = HappensAfter s.ask v.0 w.0 found
