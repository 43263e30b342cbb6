-- Messages that are applied one after another.
use Rattle.std.specs.Prelude.{◌≡◌, ℕ, ◌+◌, ◌≤◌, List, length, fold}
use Rattle.pitch_model.specs.Book.{after}
use Rattle.pitch_model.specs.History.{Raw}
use Rattle.order_book.specs.Standing.{Standing}

-- these messages were applied in their order: the book is what they leave of the one before, the
-- reach rose from n to n' by their number, and each used up the room for one order at most
pub record Applies (n n' : ℕ) (book book' : Standing) (raws : List Raw) : Type 0 where
  pub book_is : book'.book ≡ fold after book.book raws
  pub reach_is : n' ≡ n + length raws
  pub spare : book.spare ≤ book'.spare + length raws
