-- Worked examples of what happens, of who may add, of answers, and of those that are too old.
use Rattle.std.proofs.Common.{◌≡◌, ℕ, zero, suc, ◌+◌, ◌<◌, ◌≤◌, Bool, true, false, List, [], ◌∷◌, ◌++◌, length, slice_index, take, refl, sym, ap, arith, lit≤, length-append}
use Rattle.std.proofs.lemmas.Bool.{false≢true}
use mathlib.Core.List.{IsPrefix}
use Rattle.logbook.specs.Pages.{Cell, cell, nib, may_write}
use Rattle.pitch_model.specs.Advertising.{Operation, Accept}
use Rattle.shared_unit.specs.layers.Moments.{Moment, Opening, Doing, Publishing, Answering}
use Rattle.shared_unit.specs.layers.Moments.{history_in, rights_in, published_in, IsNewest}
use Rattle.shared_unit.specs.layers.Rules.{KeepsHistory, HasRight}

-- a writer is given its first right, the pen of cell 2; a message is accepted, for the pen of cell 3, and published; and then a server begins an answer
abbrev message : Operation
message = Accept []

abbrev moments : List Moment
moments = Opening 2 ∷ Doing message 3 ∷ Publishing ∷ Answering 0 ∷ []

history_of_it : history_in moments ≡ message ∷ []
history_of_it = refl

rights_of_it : rights_in moments ≡ 2 ∷ 3 ∷ []
rights_of_it = refl

published_of_it : published_in moments ≡ 1
published_of_it = refl

-- ---- Who may add
-- the last right is one, and the one before it none
last_is_right : HasRight moments (nib may_write 3 0)
last_is_right = record { may = refl; some = omega arith; last = refl }

first_is_none : HasRight moments (nib may_write 2 0) → ⊥
first_is_none has = (let e : 3 ≡ 2 = has.last in omega (arith, e))

-- the first right was taken: its cell is at home, where that of the last need not be
abbrev cells : Bool → List Cell
cells home = (2, true) ∷ (1, true) ∷ (0, home) ∷ (0, false) ∷ []

is_kept : KeepsHistory false [] (cells true) moments
is_kept = record {
  more = (0, true) ∷ (0, false) ∷ [];
  words = refl;
  legal = λ fixed. absurd (false≢true fixed);
  order = lit≤ tt;
  taken = by;
}
  where
    by : (place : ℕ) → place + 1 < length (rights_in moments) → (cell (cells true) (slice_index (rights_in moments) place)).1 ≡ true
    by zero less = refl
    by (suc place) less = absurd (omega (arith, less))

is_not_kept : KeepsHistory false [] (cells false) moments → ⊥
is_not_kept kept = false≢true (kept.taken 0 (omega arith))

-- ---- Answers
answers_from_it : IsNewest 0 [] moments (message ∷ [])
answers_from_it = record { between = Opening 2 ∷ Doing message 3 ∷ Publishing ∷ []; begun = ([], refl); newest = lit≤ tt; done = ([], refl) }

-- no answer from before it is the newest
abbrev is_answering : Moment → Bool
is_answering (Opening right) = false
is_answering (Doing operation right) = false
is_answering Publishing = false
is_answering (Answering server) = true

abbrev answers_first : List Moment → Bool
answers_first [] = false
answers_first (moment ∷ more) = is_answering moment

abbrev answers_second : List Moment → Bool
answers_second [] = false
answers_second (moment ∷ more) = answers_first more

abbrev answers_third : List Moment → Bool
answers_third [] = false
answers_third (moment ∷ more) = answers_second more

not_from_before_it : IsNewest 0 [] moments [] → ⊥
not_from_before_it answer = by answer.between answer.begun answer.newest
  where
    by : (between : List Moment) → IsPrefix (([] ++ between) ++ Answering 0 ∷ []) moments → published_in ([] ++ between) ≤ 0 → ⊥
    by [] begun newest = absurd (false≢true (sym (ap answers_first begun.1)))
    by (a ∷ []) begun newest = absurd (false≢true (sym (ap answers_second begun.1)))
    by (a ∷ b ∷ []) begun newest = absurd (false≢true (sym (ap answers_third begun.1)))
    by (a ∷ b ∷ c ∷ []) begun newest = absurd (omega (arith, newest, ap (λ (ms : List Moment). published_in (take 3 ms)) begun.1))
    by (a ∷ b ∷ c ∷ d ∷ more) begun newest =
        absurd (omega (arith, ap (λ (ms : List Moment). length ms) begun.1, length-append (more ++ Answering 0 ∷ []) begun.0, length-append more (Answering 0 ∷ [])))
