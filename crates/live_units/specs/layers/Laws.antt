-- What is printed where only blocks came, and what a unit has heard that has ended.
use Rattle.std.specs.Prelude.{◌≡◌, ◌<◌, ◌≤◌, ℕ, ◌+◌, ◌==◌, true, List, [], ◌++◌, length, map}
use Rattle.std.specs.Prelude.{Some, filter}
use Rattle.std.specs.List.{AllByRecursion}
use Rattle.unit_packets.specs.Blocks.{Block}
use Rattle.pitch_model.specs.History.{Raw}
use Rattle.pitch_model.specs.Honest.{message_at}
use Rattle.pitch_model.specs.Reach.{reach}
use Rattle.feed_lines.specs.Follow.{follow_text, line_after, unit_text}
use Rattle.client_end.specs.Came.{Came, EndSetup, Heard}
use Rattle.live_units.specs.Coming.{LiveSetup, UnitCame, AreHonest, has_unit, history_at}
use Rattle.live_units.specs.Coming.{live_books, live_lines, with_blocks}
use Rattle.live_units.specs.Ended.{has_ended, is_end}
use Rattle.live_units.specs.LiveText.{came_text, end_book}

-- of some blocks, the newest first, those of a unit came to it
abbrev pub only_blocks : ℕ → List Block → List Came
only_blocks unit blocks = map (λ block. Heard block) (filter (λ block. block.unit == unit) blocks)

-- the line of the next block is that of `follow`
abbrev pub LinesAreFollows : Type 0
LinesAreFollows = (s : EndSetup) (blocks : List Block) (block : Block) → block.unit ≡ s.unit
    → came_text s (length blocks + 1) (Heard block) (only_blocks s.unit blocks)
    ≡ line_after s.hold blocks block

-- and so is the book
abbrev pub BooksAreFollows : Type 0
BooksAreFollows = (s : EndSetup) (Vs : ℕ → List Raw) (blocks : List Block)
    → end_book s (Vs s.unit) (only_blocks s.unit blocks) ≡ unit_text s.hold Vs blocks s.unit

-- of some blocks, those whose units are listened to
abbrev pub listened_of : LiveSetup → List Block → List Block
listened_of s blocks = filter (λ block. has_unit s block.unit) blocks

-- where blocks alone came to the units of a client, the oldest first, each of which names its unit
-- by one byte, the whole text is that of `follow` for those whose units are listened to
abbrev pub TextIsFollows : Type 0
TextIsFollows = (s : LiveSetup) (Vs : ℕ → List Raw) (blocks : List Block)
    → AllByRecursion (λ block. block.unit < 256) blocks
    → live_lines s (with_blocks s blocks []) ++ live_books s Vs (with_blocks s blocks [])
    ≡ follow_text s.hold Vs (listened_of s blocks)

-- ---- Units that have ended
-- a venue's message of some sequence up to a reach is an End of Session
pub record HasEndWithin (V : List Raw) (n : ℕ) : Type 0 where
  pub sequence : ℕ
  pub raw : Raw
  pub is_venues : message_at V sequence ≡ Some raw
  pub ends : is_end raw ≡ true
  pub within : sequence ≤ n

-- of every family of venues of which the histories speak honestly, so is one of the unit's venue,
-- up to the unit's reach
abbrev pub EndsAreVenues : Type 0
EndsAreVenues = (s : LiveSetup) (Vs : ℕ → List Raw) (came : List UnitCame) (unit : ℕ)
    → AreHonest s Vs came → has_ended s unit came ≡ true
    → HasEndWithin (Vs unit) (reach s.hold (history_at s unit came))
