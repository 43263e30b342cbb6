-- A text that comes in pieces: its whole lines, and the line that is not finished yet.
use Rattle.std.specs.Prelude.{◌≡◌, ℕ, ◌+◌, ◌-◌, ◌^◌, ◌≤◌, ◌==◌, Bool, List, [], ◌∷◌, ◌++◌, length}
use Rattle.std.specs.Prelude.{take, min, if◌then◌else◌}
use Rattle.std.specs.List.{list_any, count_by}

-- ---- limits

-- the most bytes that a piece can have: 2^16
abbrev pub piece_limit : ℕ
piece_limit = 65536

-- the most bytes that a line can have that is not finished: 2^20
abbrev pub rest_limit : ℕ
rest_limit = 1048576

-- a count of lines goes up to the end of its type, and stays there
abbrev pub counted_lines : ℕ → ℕ
counted_lines n = min n (2 ^ 64 - 1)

-- ---- where a text is cut

-- a line feed
abbrev pub is_line_feed : ℕ → Bool
is_line_feed b = b == 10

-- how many line feeds a text has
abbrev pub line_feeds : List ℕ → ℕ
line_feeds text = count_by is_line_feed text

-- a text up to and with its last line feed; nothing of a text without one
abbrev pub whole_lines : List ℕ → List ℕ
whole_lines [] = []
whole_lines (b ∷ bs) = if list_any is_line_feed (b ∷ bs) then b ∷ whole_lines bs else []

-- what follows the last line feed; all of a text without one
abbrev pub last_line : List ℕ → List ℕ
last_line [] = []
last_line (b ∷ bs) = if list_any is_line_feed (b ∷ bs) then last_line bs else b ∷ bs

-- ---- what is unread

-- the bytes that came and were not read yet: whole lines, and the unfinished line that follows
-- them; and how many lines were read before
pub record UnreadText : Type 0 where
  pub whole : List ℕ
  pub rest : List ℕ
  pub lines : ℕ

-- one more piece came, while no whole line was unread
abbrev pub piece_pushed : UnreadText → List ℕ → UnreadText
piece_pushed unread piece =
    let bytes = unread.rest ++ piece in
    record { whole = whole_lines bytes; rest = last_line bytes; lines = unread.lines }

-- the whole lines were read
abbrev pub lines_passed : UnreadText → UnreadText
lines_passed unread =
    let read = line_feeds unread.whole in
    record { whole = []; rest = unread.rest; lines = counted_lines (unread.lines + read) }

-- all of a text came, and its whole lines were read
abbrev pub read_through : List ℕ → UnreadText
read_through text =
    record { whole = []; rest = last_line text; lines = counted_lines (line_feeds text) }

-- bytes of which so many are whole lines; neither the line behind those nor all of them are too
-- long
pub record AreKept (bytes : List ℕ) (whole : ℕ) : Type 0 where
  pub cut : take whole bytes ≡ whole_lines bytes
  pub within : whole ≤ length bytes
  pub unfinished : length bytes ≤ whole + rest_limit
  pub few : length bytes ≤ rest_limit + piece_limit
