-- What `follow` writes for the blocks of a stream: a line for each block, and then the book of each
-- unit. Blocks that came before stand newest first, as the entries of a history do.
use Rattle.std.specs.Prelude.{ℕ, ◌+◌, Bool, List, [], ◌∷◌, ◌++◌, nat_lt, length, take, reverse}
use Rattle.std.specs.Prelude.{codes, if◌then◌else◌}
use Rattle.std.specs.List.{flat_map}
use Rattle.unit_packets.specs.Blocks.{Block}
use Rattle.pitch_model.specs.declared.status.Status.{Status}
use Rattle.pitch_model.specs.Book.{book_after}
use Rattle.pitch_model.specs.History.{Entry, Raw}
use Rattle.pitch_model.specs.Reach.{reach}
use Rattle.pitch_model.specs.Status.{status_of}
use Rattle.heard_items.specs.HeardBlocks.{heard_block, block_overflows}
use Rattle.heard_items.specs.Units.{unit_history, units_of}
use Rattle.feed_lines.specs.StatusText.{status_text}
use Rattle.feed_lines.specs.BookText.{book_text}
use Rattle.feed_lines.specs.Texts.{block_head, texts_after}

-- that the hold overflowed
abbrev pub overflow_text : Bool → List ℕ
overflow_text overflow = if overflow then codes " overflow" else []

-- the line of block number k
unfoldable pub block_line : ℕ → ℕ → ℕ → ℕ → Bool → Status → List ℕ
block_line k unit first count overflow status =
    block_head k unit first count
    ++ (overflow_text overflow ++ (codes "; " ++ (status_text status ++ 10 ∷ [])))

-- the line of a block that is heard after a history of its unit: whether the hold overflowed with
-- one of its messages, and the status then
abbrev pub line_at : ℕ → ℕ → Block → List Entry → List ℕ
line_at H k block E =
    block_line k block.unit block.sequence
    (length block.raws) (nat_lt 0 (block_overflows H E block)) (status_of H (heard_block block E))

-- the line of a block that comes after others
abbrev pub line_after : ℕ → List Block → Block → List ℕ
line_after H before block = line_at H (length before + 1) block (unit_history block.unit before)

-- a line for each block
abbrev pub lines_after : ℕ → List Block → List Block → List ℕ
lines_after H before blocks = texts_after (line_after H) before blocks

-- the book of a unit: what the messages of its venue leave, up to the reach
abbrev pub unit_text : ℕ → (ℕ → List Raw) → List Block → ℕ → List ℕ
unit_text H Vs before unit =
    let n = reach H (unit_history unit before) in book_text unit n (book_after (take n (Vs unit)))

-- the books of all units that the blocks name
abbrev pub books_of : ℕ → (ℕ → List Raw) → List Block → List ℕ
books_of H Vs before = flat_map (unit_text H Vs before) (units_of before)

-- the whole text for some blocks, the oldest first
abbrev pub follow_text : ℕ → (ℕ → List Raw) → List Block → List ℕ
follow_text H Vs blocks = lines_after H [] blocks ++ books_of H Vs (reverse blocks)
