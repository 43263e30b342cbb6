-- What comes to the units by the calls of a run, and what waits for each session. The calls of a
-- run, and what came, stand newest first.
use Rattle.std.specs.Prelude.{◌≡◌, ◌≢◌, ◌⊎◌, ◌≤◌, ℕ, zero, suc, Bool, false, List, [], ◌∷◌, drop}
use Rattle.std.specs.Prelude.{length, slice_get, None, Some}
use Rattle.std.specs.Option.{option_map_or}
use Rattle.client_end.specs.Came.{Came, Second}
use Rattle.sending_end.specs.Waiting.{made, took, lost, ended}
use Rattle.sending_end.specs.declared.session.Session.{Session}
use Rattle.live_net.specs.LiveCalls.{LiveCall, Wait, Receive, Open, Take, Put, Close}
use Rattle.live_net.specs.declared.net.Received.TheVariants as received
use Rattle.live_net.specs.declared.live.WaitEnd.TheVariants as wait_end
use Rattle.live_net.specs.declared.live.PeerOpened.TheVariants as opened
use Rattle.live_net.specs.declared.live.PeerTaken.TheVariants as taken
use Rattle.live_net.specs.declared.live.PeerPut.TheVariants as put
use Rattle.live_turns.specs.Due.{Ways, Ends, IsDue}
use Rattle.live_units.specs.Coming.{LiveSetup, UnitCame, stands_at, to_unit, with_came}
use Rattle.live_units.specs.Coming.{with_datagram, with_loss}
use Rattle.live_units.specs.Ended.{have_ended}
use Rattle.live_units.specs.Units.{waits_then}
use Rattle.live_recovery.specs.Disagreeing.{first_disagreement}
use Rattle.live_recovery.specs.declared.peer.Peer.{Peer}

-- how many lines there are, the peers by their numbers, and what is listened to
pub record Setup : Type 0 where
  pub lines : ℕ
  pub peers : List Peer
  pub listens : LiveSetup

-- two bytes count the peers
abbrev pub CanRecover : List Peer → Type 0
CanRecover peers = length peers ≤ 65535

abbrev pub ways : Setup → Ways
ways s = record { lines = s.lines; peers = length s.peers }

-- what came to the units by some calls, and what waits then for each session of each unit
pub record Now : Type 0 where
  pub came : List UnitCame
  pub waits : ℕ → Session → List ℕ

abbrev pub at_first : Now
at_first = record { came = []; waits = λ unit session. [] }

-- the client's link with a peer is open
abbrev pub has_link : Setup → List UnitCame → Peer → Bool
has_link s came peer = stands_at s.listens peer.unit peer.session came

-- the client's ends, by the numbers of the peers
abbrev pub ends_now : Setup → Now → Ends
ends_now s now = record {
  has = λ at. option_map_or (has_link s now.came) (slice_get s.peers at) false;
  waits = λ at.
      option_map_or (λ peer. now.waits peer.unit peer.session) (slice_get s.peers at) [];
}

-- ---- What comes to a unit
-- nothing came, and the same bytes wait
pub record IsSame (now now' : Now) : Type 0 where
  pub came_is : now'.came ≡ now.came
  pub waits : (unit : ℕ) (session : Session) → now'.waits unit session ≡ now.waits unit session

-- this came to a unit, and what waits for its sessions follows
pub record Comes (s : Setup) (unit : ℕ) (came : Came) (now now' : Now) : Type 0 where
  pub came_is : now'.came ≡ with_came s.listens (to_unit unit came) now.came
  pub here : (session : Session) → now'.waits unit session
      ≡ waits_then s.listens unit came now.came session (now.waits unit session)
  pub others : (other : ℕ) (session : Session) → other ≢ unit
      → now'.waits other session ≡ now.waits other session

-- the blocks of a datagram came, each to its unit, and the same bytes wait
pub record ComesDatagram (s : Setup) (bytes : List ℕ) (now now' : Now) : Type 0 where
  pub came_is : now'.came ≡ with_datagram s.listens bytes now.came
  pub waits : (unit : ℕ) (session : Session) → now'.waits unit session ≡ now.waits unit session

-- so many of the first bytes wait no more for a session
pub record Sent (unit : ℕ) (session : Session) (count : ℕ) (now now' : Now) : Type 0 where
  pub came_is : now'.came ≡ now.came
  pub here : now'.waits unit session ≡ drop count (now.waits unit session)
  pub others : (other : ℕ) (that : Session) → (other ≡ unit → that ≡ session → ⊥)
      → now'.waits other that ≡ now.waits other that

-- for want of memory a unit lost both its connections, once this had come, and nothing waits for it
pub record Loses (s : Setup) (unit : ℕ) (before : List UnitCame) (now now' : Now) : Type 0 where
  pub came_is : now'.came ≡ with_loss s.listens unit before
  pub here : (session : Session) → now'.waits unit session ≡ []
  pub others : (other : ℕ) (session : Session) → other ≢ unit
      → now'.waits other session ≡ now.waits other session

-- ---- A second
-- it passed for a unit, or the unit lost both its connections, before it or by it
abbrev pub PassesSecond : Setup → ℕ → Now → Now → Type 0
PassesSecond s unit now now' = Comes s unit Second now now'
    ⊎ (Loses s unit now.came now now'
    ⊎ Loses s unit (with_came s.listens (to_unit unit Second) now.came) now now')

-- and so for each of the units below a number, by rising number
abbrev pub PassSeconds : Setup → ℕ → Now → Now → Type 0
PassSeconds s zero now now' = IsSame now now'
PassSeconds s (suc unit) now now' =
    (mid : Now) × (PassSeconds s unit now mid × PassesSecond s unit mid now')

-- ---- What a call brings
-- to the unit of a peer, by its session
abbrev pub ByPeer : Setup → ℕ → (ℕ → Session → Type 0) → Type 0
ByPeer s at P =
    (peer : Peer) × ((slice_get s.peers at ≡ Some peer) × P peer.unit peer.session)

abbrev pub Brings : Setup → LiveCall → Now → Now → Type 0
-- a datagram: its blocks
Brings s (Receive line room bytes (received.Got n)) now now' = ComesDatagram s bytes now now'
-- a second: one for each unit
Brings s (Wait more wait_end.Second) now now' = PassSeconds s 256 now now'
-- begun: a connection was made; without memory for its login there is no link
Brings s (Open at opened.Begun) now now' = ByPeer s at
    (λ unit session. Comes s unit (made session) now now' ⊎ IsSame now now')
-- bytes: they were taken; without memory the link was lost after so many items of them
Brings s (Take at room bytes (taken.Got n)) now now' = ByPeer s at
    (λ unit session. Comes s unit (took session bytes) now now'
    ⊎ ((count : ℕ) × Comes s unit (lost session bytes count) now now'))
-- an end: that of the connection
Brings s (Take at room bytes taken.Ended) now now' =
    ByPeer s at (λ unit session. Comes s unit (ended session) now now')
Brings s (Put at piece put.Ended) now now' =
    ByPeer s at (λ unit session. Comes s unit (ended session) now now')
Brings s (Close at) now now' =
    ByPeer s at (λ unit session. Comes s unit (ended session) now now')
-- a put: so many bytes wait no more
Brings s (Put at piece (put.Wrote n)) now now' =
    ByPeer s at (λ unit session. Sent unit session n now now')
-- and all else nothing
Brings s call now now' = IsSame now now'

-- ---- A run
-- units are named, and each of them has ended
abbrev pub are_ended : Setup → List UnitCame → Bool
are_ended s came = have_ended s.listens s.listens.units came

-- then no wait is made
abbrev pub MayCall : Setup → List UnitCame → LiveCall → Type 0
MayCall s came (Wait more answer) = are_ended s came ≡ false
MayCall s came call = Unit {0}

-- a call more is made only where no copies differ by then, and a wait only where the units have not
-- ended; it was due, with the ends as they were then, and brought what it did
pub record RunsOn (s : Setup) (call : LiveCall) (before : List LiveCall) (now now' : Now)
    : Type 0 where
  pub agreed : first_disagreement now.came ≡ None
  pub may : MayCall s now.came call
  pub is_due : IsDue (ways s) (ends_now s now) before call
  pub brings : Brings s call now now'

abbrev pub Runs : Setup → List LiveCall → Now → Type 0
Runs s [] now = IsSame at_first now
Runs s (call ∷ before) now' = (now : Now) × (Runs s before now × RunsOn s call before now now')

-- what had come to the units before the last wait of a run
abbrev pub had_come : (s : Setup) (run : List LiveCall) (now : Now) → Runs s run now → List UnitCame
had_come s [] now runs = []
had_come s (Wait more answer ∷ before) now runs = runs.0.came
had_come s (call ∷ before) now runs = had_come s before runs.0 runs.1.0
