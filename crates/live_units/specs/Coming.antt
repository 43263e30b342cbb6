-- What comes to the units of a live client, and what is printed of it. What came stands newest
-- first.
use Rattle.std.specs.Prelude.{◌≡◌, ℕ, ◌+◌, ◌==◌, Bool, true, false, ◌&&◌, not, List, [], ◌∷◌}
use Rattle.std.specs.Prelude.{◌++◌, ◌<◌, ◌≤◌, ◌^◌, is_some, length, take, if◌then◌else◌}
use Rattle.std.specs.List.{AllByRecursion, count_by, flat_map, list_any}
use Rattle.unit_packets.specs.Blocks.{Block}
use Rattle.unit_packets.specs.Cutting.{blocks_of, rest_of}
use Rattle.pitch_model.specs.Book.{Book, book_after}
use Rattle.pitch_model.specs.History.{Entry, Raw}
use Rattle.pitch_model.specs.Reach.{reach}
use Rattle.feed_lines.specs.BookText.{book_text}
use Rattle.session_ends.specs.declared.account.Account.{Account}
use Rattle.client_core.specs.Venues.{IsVenue}
use Rattle.client_end.specs.Came.{Came, EndSetup, EndState, GrpCut, Heard, SpinCut}
use Rattle.client_end.specs.Came.{end_after, end_history}
use Rattle.sending_end.specs.Waiting.{link_of}
use Rattle.sending_end.specs.declared.end.Passed.{Passed}
use Rattle.sending_end.specs.declared.session.Session.{Session}
use Rattle.sending_end.specs.declared.session.Session.TheVariants.{Proxy, SpinServer}
use Rattle.stream_print.specs.Rising.{named_below}
use Rattle.live_units.specs.LiveText.{came_text, end_book, is_block, is_told_of}

-- which units are named (where none is, every unit is listened to), the account of their logins,
-- and the places of each unit's hold
pub record LiveSetup : Type 0 where
  pub units : List ℕ
  pub account : Account
  pub hold : ℕ

-- a unit's end is made so
abbrev pub end_setup : LiveSetup → ℕ → EndSetup
end_setup s unit = record { unit = unit; account = s.account; hold = s.hold }

-- a unit is named, or none is
abbrev pub is_listened : List ℕ → ℕ → Bool
is_listened [] unit = true
is_listened (first ∷ others) unit = list_any (λ named. named == unit) (first ∷ others)

-- a unit is listened to
abbrev pub has_unit : LiveSetup → ℕ → Bool
has_unit s unit = is_listened s.units unit

-- ---- What comes
-- this came to a unit's end
pub record UnitCame : Type 0 where
  pub unit : ℕ
  pub came : Came

abbrev pub to_unit : ℕ → Came → UnitCame
to_unit unit came = record { unit = unit; came = came }

-- all that came to one unit's end
abbrev pub came_to : ℕ → List UnitCame → List Came
came_to unit [] = []
came_to unit (next ∷ before) =
    if next.unit == unit then next.came ∷ came_to unit before else came_to unit before

-- what comes for a unit that is not listened to is passed over
abbrev pub with_came : LiveSetup → UnitCame → List UnitCame → List UnitCame
with_came s next before = if has_unit s next.unit then next ∷ before else before

-- blocks came on a line, one after another
abbrev pub with_blocks : LiveSetup → List Block → List UnitCame → List UnitCame
with_blocks s [] before = before
with_blocks s (block ∷ blocks) before =
    with_blocks s blocks (with_came s (to_unit block.unit (Heard block)) before)

-- a datagram did: the whole blocks at its start are heard
abbrev pub with_datagram : LiveSetup → List ℕ → List UnitCame → List UnitCame
with_datagram s bytes before = with_blocks s (blocks_of bytes) before

-- a unit lost both its connections
abbrev pub with_loss : LiveSetup → ℕ → List UnitCame → List UnitCame
with_loss s unit before =
    with_came s (to_unit unit SpinCut) (with_came s (to_unit unit GrpCut) before)

-- how many blocks came
abbrev pub block_count : List UnitCame → ℕ
block_count [] = 0
block_count (next ∷ before) =
    if is_block next.came then block_count before + 1 else block_count before

-- what a datagram had: blocks whose units are listened to, others, and the bytes after the last
-- whole block
abbrev pub passed_of : LiveSetup → List ℕ → Passed
passed_of s bytes = record {
  heard = count_by (λ block. has_unit s block.unit) (blocks_of bytes);
  others = count_by (λ block. not (has_unit s block.unit)) (blocks_of bytes);
  rest = length (rest_of bytes);
}

-- a datagram's blocks have no messages, and they can be counted behind those that came
pub record HasBeatsAlone (bytes : List ℕ) (before : List UnitCame) : Type 0 where
  pub beats : AllByRecursion (λ block. block.raws ≡ []) (blocks_of bytes)
  pub few : block_count before + length (blocks_of bytes) < 2 ^ 64

-- ---- One unit of all
-- what its end stands for by that, and what its client heard
abbrev pub state_at : LiveSetup → ℕ → List UnitCame → EndState
state_at s unit came = end_after (end_setup s unit) (came_to unit came)

abbrev pub history_at : LiveSetup → ℕ → List UnitCame → List Entry
history_at s unit came = end_history (end_setup s unit) (came_to unit came)

-- a connection of a session of it stands
abbrev pub stands_at : LiveSetup → ℕ → Session → List UnitCame → Bool
stands_at s unit session came =
    has_unit s unit && is_some (link_of session (state_at s unit came))

-- no connection of it does
pub record StandsNone (s : LiveSetup) (unit : ℕ) (came : List UnitCame) : Type 0 where
  pub proxy : stands_at s unit Proxy came ≡ false
  pub spin_server : stands_at s unit SpinServer came ≡ false

-- ---- Lines
-- the lines of all that came
abbrev pub live_lines : LiveSetup → List UnitCame → List ℕ
live_lines s [] = []
live_lines s (next ∷ before) = live_lines s before
    ++ came_text (end_setup s next.unit) (block_count before + 1) next.came
    (came_to next.unit before)

-- ---- Books
-- a unit has a book to print: it is listened to, and was told of
abbrev pub has_book : LiveSetup → List UnitCame → ℕ → Bool
has_book s came unit = has_unit s unit && is_told_of (end_setup s unit) (came_to unit came)

-- what a unit's client heard speaks of these messages of its venue alone
abbrev pub IsHonestAt : LiveSetup → List UnitCame → ℕ → List Raw → Type 0
IsHonestAt s came unit V = IsVenue V (history_at s unit came)

-- for each venue of which a unit's history speaks honestly, the book is what the first of its
-- messages leave, up to the reach
abbrev pub IsBookAt : LiveSetup → List UnitCame → ℕ → Book → Type 0
IsBookAt s came unit book =
    (V : List Raw) → IsHonestAt s came unit V
    → book ≡ book_after (take (reach s.hold (history_at s unit came)) V)

-- the text of a unit's book, at its reach
abbrev pub text_at_reach : LiveSetup → List UnitCame → (ℕ → Book) → ℕ → List ℕ
text_at_reach s came books unit =
    book_text unit (reach s.hold (history_at s unit came)) (books unit)

-- the books of the units below a number that have one, by rising number, each of which rests on
-- what its unit's client heard alone
pub record AreBooksBelow (count : ℕ) (s : LiveSetup) (came : List UnitCame) (text : List ℕ)
    : Type 0 where
  pub books : ℕ → Book
  pub right : (unit : ℕ) → unit < count → has_book s came unit ≡ true
      → IsBookAt s came unit (books unit)
  pub text_is : text
      ≡ flat_map (text_at_reach s came books) (named_below (has_book s came) count)

-- ---- The whole text
-- all lines, and then the books of all units, each of which is named by one byte
pub record IsLiveText (s : LiveSetup) (came : List UnitCame) (text : List ℕ) : Type 0 where
  pub books : List ℕ
  pub are_books : AreBooksBelow 256 s came books
  pub text_is : text ≡ live_lines s came ++ books

-- a prefix of it: of all lines and the books of the units below a number
pub record BeginsLiveText (s : LiveSetup) (came : List UnitCame) (text : List ℕ) : Type 0 where
  pub count : ℕ
  pub within : count ≤ 256
  pub books : List ℕ
  pub are_books : AreBooksBelow count s came books
  pub begins : (more : List ℕ) × (live_lines s came ++ books ≡ text ++ more)

-- ---- Where each unit's history speaks honestly
-- `Vs` gives the messages of each unit's venue, and what its client heard speaks of no others
abbrev pub AreHonest : LiveSetup → (ℕ → List Raw) → List UnitCame → Type 0
AreHonest s Vs came = (unit : ℕ) → IsHonestAt s came unit (Vs unit)

-- then the books are those of their venues
abbrev pub book_at : LiveSetup → (ℕ → List Raw) → List UnitCame → ℕ → List ℕ
book_at s Vs came unit = end_book (end_setup s unit) (Vs unit) (came_to unit came)

abbrev pub live_books : LiveSetup → (ℕ → List Raw) → List UnitCame → List ℕ
live_books s Vs came = flat_map (book_at s Vs came) (named_below (has_book s came) 256)
