-- What is printed of what comes to a unit: what `follow` does, and a line where a session's bytes
-- took its reach on. What came stands newest first.
use Rattle.std.specs.Prelude.{ℕ, ◌==◌, Bool, true, false, ◌||◌, List, [], ◌∷◌, ◌++◌, nat_lt, take}
use Rattle.std.specs.Prelude.{codes, if◌then◌else◌}
use Rattle.std.specs.List.{list_any}
use Rattle.pitch_model.specs.declared.status.Status.{Status}
use Rattle.pitch_model.specs.Book.{book_after}
use Rattle.pitch_model.specs.History.{Entry, Raw}
use Rattle.pitch_model.specs.Reach.{reach}
use Rattle.pitch_model.specs.Status.{status_of}
use Rattle.feed_lines.specs.BookText.{book_text}
use Rattle.feed_lines.specs.Follow.{line_at}
use Rattle.feed_lines.specs.Show.{number_field}
use Rattle.feed_lines.specs.StatusText.{status_text}
use Rattle.client_end.specs.Came.{Came, EndSetup, Heard, GrpTook, GrpLost, SpinTook, SpinLost}
use Rattle.client_end.specs.Came.{end_history}

-- it is a block
abbrev pub is_block : Came → Bool
is_block (Heard block) = true
is_block came = false

-- ---- Lines
-- the line of an image: the unit, how far it reaches by it, and the status then
unfoldable pub image_line : ℕ → ℕ → Status → List ℕ
image_line unit n status = number_field (codes "unit ") unit
    ++ (number_field (codes " image ") n ++ (codes "; " ++ (status_text status ++ 10 ∷ [])))

-- that a unit's reach has moved, where it has
abbrev pub moved_text : EndSetup → List Entry → List Entry → List ℕ
moved_text s before after =
    if reach s.hold before == reach s.hold after then []
    else image_line s.unit (reach s.hold after) (status_of s.hold after)

-- what is printed when this comes to a unit's end: the line of a block, which has this number, and
-- of a session's bytes that they moved the reach
abbrev pub came_text : EndSetup → ℕ → Came → List Came → List ℕ
came_text s k (Heard block) before = line_at s.hold k block (end_history s before)
came_text s k (GrpTook bytes) before =
    moved_text s (end_history s before) (end_history s (GrpTook bytes ∷ before))
came_text s k (GrpLost bytes count) before =
    moved_text s (end_history s before) (end_history s (GrpLost bytes count ∷ before))
came_text s k (SpinTook bytes) before =
    moved_text s (end_history s before) (end_history s (SpinTook bytes ∷ before))
came_text s k (SpinLost bytes count) before =
    moved_text s (end_history s before) (end_history s (SpinLost bytes count ∷ before))
came_text s k came before = []

-- ---- Books
-- a unit was told of: a block of it came, or its reach is above 0
abbrev pub is_told_of : EndSetup → List Came → Bool
is_told_of s before = list_any is_block before || nat_lt 0 (reach s.hold (end_history s before))

-- the book of a unit: what the messages of its venue leave, up to the reach
abbrev pub end_book : EndSetup → List Raw → List Came → List ℕ
end_book s V before =
    let n = reach s.hold (end_history s before) in book_text s.unit n (book_after (take n V))
