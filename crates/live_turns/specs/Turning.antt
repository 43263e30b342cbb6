-- Turns between two calls of a net.
use Rattle.std.specs.Prelude.{◌≡◌, ◌<◌, ◌≤◌, ℕ, ◌+◌, ◌-◌, min, Bool, true, false, List, ◌∷◌}
use Rattle.std.specs.Prelude.{length, slice_get, Option, None, Some, IfSome, IfNone}
use Rattle.live_net.specs.LiveCalls.{LiveCall, Wait, Receive, Open, Take, Put, Close}
use Rattle.live_turns.specs.Due.{Ways, Ends, due, from_peer, put_first, is_more_left}
use Rattle.live_turns.specs.Due.{datagrams_from, pieces_from, most_datagrams, most_pieces, IsMade}
use Rattle.live_turns.specs.Retry.{stands, seconds_since, ends_in_row, pause_after, longest_pause}
use Rattle.live_turns.specs.declared.due.Due.{Due}
use Rattle.live_turns.specs.declared.due.Due.TheVariants as to
use Rattle.live_turns.specs.declared.place.Place.{Place}
use Rattle.live_turns.specs.declared.place.Place.TheVariants as at
use Rattle.live_turns.specs.declared.retry.Link.{Link}
use Rattle.live_turns.specs.declared.retry.Link.TheVariants.{Up, Down}
use Rattle.live_turns.specs.declared.retry.Retry.{Retry}
use Rattle.live_turns.specs.declared.turns.LiveTurns.{LiveTurns}

-- ---- A peer
-- its connection stands, for so many seconds, or there is none for so many seconds more
abbrev pub IsLink : Link → (stands : Bool) → (since pause : ℕ) → Type 0
IsLink (Up seconds) stands since pause = (stands ≡ true) × (seconds ≡ min since longest_pause)
IsLink (Down seconds) stands since pause = (stands ≡ false) × (seconds ≡ pause - since)

-- after such calls its connection is so
pub record Knows (peer : ℕ) (run : List LiveCall) (r : Retry) : Type 0 where
  pub link_is : IsLink r.link (stands peer run) (seconds_since peer run)
      (pause_after (ends_in_row peer run))
  pub pause_is : r.pause ≡ pause_after (ends_in_row peer run)

-- each peer's is
abbrev pub KnowEach : List LiveCall → LiveTurns → Type 0
KnowEach run t = (peer : ℕ) (r : Retry)
    → slice_get t.retries.items peer ≡ Some r → Knows peer run r

-- ---- The place
-- the peer whose turn it is, if one's is
abbrev pub peer_at : Place → Option ℕ
peer_at at.Wait = None
peer_at (at.Line line taken) = None
peer_at (at.Peer peer taken) = Some peer
peer_at (at.Put peer) = Some peer

-- how many datagrams or pieces came in the turn
abbrev pub taken_at : Place → ℕ
taken_at at.Wait = 0
taken_at (at.Line line taken) = taken
taken_at (at.Peer peer taken) = taken
taken_at (at.Put peer) = 0

-- what is due there
abbrev pub due_at : Ways → Ends → List LiveCall → Place → Due
due_at w e run at.Wait = to.Wait (is_more_left run)
due_at w e run (at.Line line taken) = to.Receive line
due_at w e run (at.Peer peer taken) = from_peer w e run peer
due_at w e run (at.Put peer) = put_first w e run peer

-- no peer gave the last piece, or none behind this one
abbrev pub NoneGave : List LiveCall → Type 0
NoneGave run = (peer : ℕ) → pieces_from peer run ≡ 0

abbrev pub NoneBehind : List LiveCall → ℕ → Type 0
NoneBehind run peer = (other : ℕ) → peer < other → pieces_from other run ≡ 0

-- its line or peer is one of those that there are, and it knows how many datagrams or pieces came
abbrev pub IsPlace : Ways → List LiveCall → Place → Type 0
IsPlace w run at.Wait = Unit {0}
IsPlace w run (at.Line line taken) =
    (line < w.lines) × (taken < most_datagrams) × (taken ≡ datagrams_from line run)
IsPlace w run (at.Peer peer taken) =
    (peer < w.peers) × (taken ≡ pieces_from peer run) × NoneBehind run peer
IsPlace w run (at.Put peer) = (peer < w.peers) × NoneBehind run peer

-- ---- The turns
-- they are those of so many lines and peers
pub record AreWays (w : Ways) (t : LiveTurns) : Type 0 where
  pub lines_are : t.lines ≡ w.lines
  pub peers_are : length t.retries.items ≡ w.peers
  pub few : (w.lines ≤ 65535) × (w.peers ≤ 65535)

-- after such calls, and with such ends, they are so
pub record TurnsStand (w : Ways) (e : Ends) (t : LiveTurns) (run : List LiveCall) : Type 0 where
  pub ways : AreWays w t
  pub each : KnowEach run t
  pub place_is : IsPlace w run t.place
  pub due_is : due w e run ≡ Some (due_at w e run t.place)
  pub more_is : t.more ≡ is_more_left run

-- the end of the peer whose turn it is has its link open or not, and so many bytes wait for it
abbrev pub IsSeen : Ends → Place → Bool → ℕ → Type 0
IsSeen e place has waiting =
    IfSome (peer_at place) (λ peer. (has ≡ e.has peer) × (waiting ≡ length (e.waits peer)))

-- such a call is one of this place
abbrev pub IsAt : Place → LiveCall → Type 0
IsAt at.Wait (Wait more answer) = Unit {0}
IsAt (at.Line line taken) (Receive l room bytes answer) = l ≡ line
IsAt (at.Peer peer taken) (Open p answer) = p ≡ peer
IsAt (at.Peer peer taken) (Take p room bytes answer) = (p ≡ peer) × (taken < most_pieces)
IsAt (at.Peer peer taken) (Close p) = p ≡ peer
IsAt (at.Put peer) (Put p piece answer) = p ≡ peer
IsAt place call = ⊥

-- this is due, and who makes that call is at its place
pub record IsNext (w : Ways) (e : Ends) (run : List LiveCall) (place : Place) (what : Due)
    : Type 0 where
  pub due_is : due w e run ≡ Some what
  pub is_at : (call : LiveCall) → IsMade e what call → IsAt place call

-- the turn of this peer or of one behind it, or the wait
abbrev pub IsFrom : ℕ → Place → Type 0
IsFrom peer at.Wait = Unit {0}
IsFrom peer (at.Line line taken) = ⊥
IsFrom peer (at.Peer other taken) = peer ≤ other
IsFrom peer (at.Put other) = ⊥

-- a place comes behind another: what waits for a peer is put once its bytes were taken, and then
-- the next peer has its turn, or the wait is due
abbrev pub IsBehind : Place → Place → Type 0
IsBehind (at.Peer peer taken) (at.Put other) = other ≡ peer
IsBehind (at.Peer peer taken) place = IsFrom (peer + 1) place
IsBehind (at.Put peer) place = IsFrom (peer + 1) place
IsBehind before place = ⊥

-- the turns still stand, and this is due, where it is anything; else they have moved on
pub record Answers (w : Ways) (e : Ends) (run : List LiveCall) (before : Place) (t : LiveTurns)
    (answer : Option Due) : Type 0 where
  pub stands : TurnsStand w e t run
  pub next : IfSome answer (IsNext w e run t.place)
  pub behind : IfNone answer (IsBehind before t.place)

-- whatever calls there were, the turns stand for them and this one, where it is of their place,
-- whatever the ends are by then
abbrev pub Passes : LiveTurns → LiveTurns → LiveCall → Type 0
Passes t t' call = (w : Ways) (e e' : Ends) (run : List LiveCall)
    → TurnsStand w e t run → IsAt t.place call → TurnsStand w e' t' (call ∷ run)
