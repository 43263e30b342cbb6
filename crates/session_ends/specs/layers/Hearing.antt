-- What the bytes that a reader has say to an end.
use Rattle.std.specs.Prelude.{◌≡◌, ℕ, ◌+◌, ◌≤◌, Bool, false, List, [], ◌++◌, length, drop, Option}
use Rattle.std.specs.Prelude.{None, Some, IfSome, Err, if◌then◌else◌}
use Rattle.unit_packets.specs.Causes.{counted}
use Rattle.unit_packets.specs.Cutting.{blocks_of, rest_of, place_of, fault_from}
use Rattle.unit_packets.specs.Judging.{judge}
use Rattle.unit_packets.specs.Reading.{Reading}
use Rattle.unit_packets.specs.declared.header.BlockError.{BlockError}
use Rattle.unit_packets.specs.Pieces.{unread}
use Rattle.session_ends.specs.declared.inbox.Heard.{Heard}
use Rattle.session_ends.specs.Items.{messages_from, stream_items_from, trouble, stream_items}
use Rattle.session_ends.specs.Inboxes.{Inboxed, HasTaken}

-- what bytes say that begin at a place: their blocks, and what breaks the stream behind them
unfoldable pub rest_items : ℕ → List ℕ → List Heard
rest_items place rest = stream_items_from place (blocks_of rest)
    ++ trouble (fault_from false (counted (place + place_of rest)) (judge (rest_of rest)))

-- what the bytes say that a reader has
abbrev pub reader_items : Reading → List Heard
reader_items reader = rest_items reader.place reader.rest

-- how far bytes were gone through: so many were passed, whole blocks, the next place; the messages
-- that are left inside a block whose end was not told; and why no block follows, once that is known
pub record Saying : Type 0 where
  pub bytes : List ℕ
  pub passed : ℕ
  pub place : ℕ
  pub inside : Bool
  pub raws : List (List ℕ)
  pub message : ℕ
  pub stop : Option BlockError

abbrev pub block_left : Bool → ℕ → List (List ℕ) → List Heard
block_left inside place raws = if inside then messages_from place raws else []

abbrev pub follows : Option BlockError → ℕ → List ℕ → List Heard
follows None place rest = rest_items place rest
follows (Some error) place rest = []

-- what is said then
abbrev pub says : Saying → List Heard
says s = block_left s.inside s.message s.raws ++ follows s.stop s.place (drop s.passed s.bytes)

-- whole blocks were passed, and where no block follows is known why
pub record IsCut (bytes : List ℕ) (passed : ℕ) (stop : Option BlockError) : Type 0 where
  pub within : passed ≤ length bytes
  pub rest : rest_of bytes ≡ rest_of (drop passed bytes)
  pub stops : IfSome stop (λ error. judge (drop passed bytes) ≡ Err error)

-- all blocks were passed
pub record IsThrough (bytes : List ℕ) (passed : ℕ) : Type 0 where
  pub within : passed ≤ length bytes
  pub rest : rest_of bytes ≡ drop passed bytes
  pub error : BlockError
  pub stop : judge (drop passed bytes) ≡ Err error

-- nothing was fed yet
abbrev pub nothing_fed : Inboxed
nothing_fed = record { reading = unread; fed = 0 }

-- what taking a piece in does: it is fed all, and what the stream says more was appended
pub record TakesPiece (fed piece : List ℕ) (new : Inboxed) (before after : List Heard) :
    Type 0 where
  pub stands : HasTaken new (fed ++ piece)
  pub added : List Heard
  pub are : stream_items (fed ++ piece) ≡ stream_items fed ++ added
  pub appended : after ≡ before ++ added
