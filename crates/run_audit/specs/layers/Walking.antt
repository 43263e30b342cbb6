-- A book that goes forward along the messages of a unit.
use Rattle.std.specs.Prelude.{◌≡◌, ◌≤◌, List, [], ◌∷◌, length, take, drop}
use Rattle.pitch_messages.specs.Room.{Roomy}
use Rattle.pitch_model.specs.Book.{book_after}
use Rattle.pitch_model.specs.History.{Raw}
use Rattle.run_audit.specs.declared.walk.Walk.{Walk}

-- the book after the first messages, and the messages that are left
pub record IsAt (V : List Raw) (walk : Walk) : Type 0 where
  pub within : walk.n ≤ length V
  pub left : walk.left ≡ drop walk.n V
  pub book : walk.book.book ≡ book_after (take walk.n V)

-- each unit's book is at some place of its log
abbrev pub AreAt : List (Roomy Raw) → List Walk → Type 0
AreAt [] [] = Unit {0}
AreAt [] (walk ∷ walks) = ⊥
AreAt (log ∷ logs) [] = ⊥
AreAt (log ∷ logs) (walk ∷ walks) = IsAt log.items walk × AreAt logs walks
