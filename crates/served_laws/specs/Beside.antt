-- A client's end beside a venue's end, where nothing between them alters bytes: datagrams come in
-- any order, any number of times or not at all, and bytes of a session are delayed or cut.
use Rattle.std.specs.Prelude.{◌≡◌, ℕ, List, [], ◌∷◌, ◌++◌, Contains}
use mathlib.Core.List.{IsPrefix}
use Rattle.unit_packets.specs.Blocks.{Block}
use Rattle.unit_packets.specs.Cutting.{blocks_of}
use Rattle.client_end.specs.Came.{Came, Heard, SpinTook, SpinLost}
use Rattle.venue_end.specs.Came.{VenueCame, venue_after, on_lines, on_gap_line}
use Rattle.venue_end.specs.declared.setup.VenueSetup.{VenueSetup}
use Rattle.served_laws.specs.Coming.{spin_bytes}
use Rattle.served_laws.specs.Putting.{put_of}

-- ---- Datagrams
-- all that a venue's end handed out on lines A and B and on the gap line
abbrev pub handed_out : VenueSetup → List VenueCame → List (List ℕ)
handed_out s [] = []
handed_out s (came ∷ before) = handed_out s before
    ++ (on_lines s came (venue_after s before) ++ on_gap_line s came (venue_after s before))

-- the block stands in one of those datagrams
pub record IsHandedOut (s : VenueSetup) (before : List VenueCame) (block : Block) : Type 0 where
  pub datagram : List ℕ
  pub sent : Contains (handed_out s before) datagram
  pub within : Contains (blocks_of datagram) block

-- ---- Bytes
-- these bytes begin what was put to one session with the Spin Server by a time at which only the
-- first of all this had come
pub record IsPut (s : VenueSetup) (before : List VenueCame) (bytes : List ℕ) : Type 0 where
  pub later : List VenueCame
  pub first : List VenueCame
  pub before_is : before ≡ later ++ first
  pub id : ℕ
  pub begins : IsPrefix bytes (put_of s id first)

-- ---- All that comes
-- this may come to a client's end after that: a block that was handed out, and bytes that go on
-- with what was put to one session; anything else may come at any time
abbrev pub MayReach : VenueSetup → List VenueCame → Came → List Came → Type 0
MayReach s before (Heard block) came = IsHandedOut s before block
MayReach s before (SpinTook bytes) came = IsPut s before (spin_bytes came ++ bytes)
MayReach s before (SpinLost bytes count) came = IsPut s before (spin_bytes came ++ bytes)
MayReach s before new came = Unit {0}

-- all that came to a client's end, the newest first, is what a venue's end handed out, to which
-- that came before
abbrev pub ComesBeside : VenueSetup → List VenueCame → List Came → Type 0
ComesBeside s before [] = Unit {0}
ComesBeside s before (new ∷ came) = MayReach s before new came × ComesBeside s before came
