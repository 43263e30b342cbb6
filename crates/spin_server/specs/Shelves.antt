-- What an image shelf keeps.
use Rattle.std.specs.Prelude.{◌≡◌, ℕ, List, [], ◌∷◌, length, take, drop}
use Rattle.pitch_model.specs.Book.{Book, book_after}

-- a base book, the messages after it, how many messages were pushed, and the sequences that are
-- served
pub record Shelf : Type 0 where
  pub base : Book
  pub after : List (List ℕ)
  pub pushed : ℕ
  pub served : List ℕ

-- the first, or another where there is none
abbrev pub first_or : ℕ → List ℕ → ℕ
first_or other [] = other
first_or other (n ∷ ns) = n

-- the base is the book at the oldest sequence that is served; while none is, the book of all
-- messages
abbrev pub base_at : Shelf → ℕ
base_at shelf = first_or shelf.pushed shelf.served

-- it keeps these messages
pub record ShelfKeeps (shelf : Shelf) (messages : List (List ℕ)) : Type 0 where
  pub pushed_is : shelf.pushed ≡ length messages
  pub base_is : shelf.base ≡ book_after (take (base_at shelf) messages)
  pub after_is : shelf.after ≡ drop (base_at shelf) messages
