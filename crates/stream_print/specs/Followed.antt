-- What `follow` writes for some blocks. The books stand there unit by unit: that the blocks of one
-- contradict takes nothing from those of the others. Blocks that came before stand newest first.
use Rattle.std.specs.Prelude.{◌≡◌, ℕ, List, [], ◌++◌, take, reverse}
use Rattle.std.specs.List.{flat_map}
use Rattle.unit_packets.specs.Blocks.{Block}
use Rattle.pitch_model.specs.Book.{Book, book_after}
use Rattle.pitch_model.specs.History.{Entry, Raw}
use Rattle.pitch_model.specs.Honest.{Honest}
use Rattle.pitch_model.specs.Reach.{reach}
use Rattle.heard_items.specs.Units.{unit_history, units_of}
use Rattle.feed_lines.specs.BookText.{book_text}
use Rattle.feed_lines.specs.Follow.{lines_after}

-- for each list V of messages of which alone a history speaks, the book is what the first of them
-- leave, up to the reach
abbrev pub IsBookOf : ℕ → List Entry → Book → Type 0
IsBookOf H E book =
    (Image : List Raw → ℕ → List Raw) (V : List Raw)
    → Honest Image V E → book ≡ book_after (take (reach H E) V)

-- the text of a unit's book, at the reach of its blocks
abbrev pub text_at_reach : ℕ → List Block → (ℕ → Book) → ℕ → List ℕ
text_at_reach H before books unit =
    book_text unit (reach H (unit_history unit before)) (books unit)

-- the books of all units that the blocks name, each of which rests on the blocks of its unit alone
pub record IsBooksText (H : ℕ) (before : List Block) (text : List ℕ) : Type 0 where
  pub books : ℕ → Book
  pub right : (unit : ℕ) → IsBookOf H (unit_history unit before) (books unit)
  pub text_is : text ≡ flat_map (text_at_reach H before books) (units_of before)

-- a line for each block, and then the books of all units
pub record IsFollowed (H : ℕ) (blocks : List Block) (text : List ℕ) : Type 0 where
  pub books : List ℕ
  pub are_books : IsBooksText H (reverse blocks) books
  pub text_is : text ≡ lines_after H [] blocks ++ books
