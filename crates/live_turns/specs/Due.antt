-- Which call of its net a live client makes next. The calls of a run stand newest first.
use Rattle.std.specs.Prelude.{◌≡◌, ℕ, ◌+◌, ◌-◌, ◌==◌, nat_lt, zero, suc, Bool, false, not, ◌||◌}
use Rattle.std.specs.Prelude.{List, [], ◌∷◌, take, Option, None, Some, if◌then◌else◌}
use Rattle.live_net.specs.LiveCalls.{LiveCall, Wait, Receive, Open, Take, Put, Close}
use Rattle.live_net.specs.declared.net.Received.TheVariants as received
use Rattle.live_net.specs.declared.live.WaitEnd.TheVariants as wait_end
use Rattle.live_net.specs.declared.live.PeerOpened.TheVariants as opened
use Rattle.live_net.specs.declared.live.PeerTaken.TheVariants as taken
use Rattle.live_net.specs.declared.live.PeerPut.TheVariants as put
use Rattle.live_turns.specs.declared.due.Due.{Due}
use Rattle.live_turns.specs.declared.due.Due.TheVariants as to
use Rattle.live_turns.specs.Retry.{stands, may_begin}

-- how many datagrams of a line, and pieces of a peer's bytes, are taken at most in a turn
abbrev pub most_datagrams : ℕ
most_datagrams = 64

abbrev pub most_pieces : ℕ
most_pieces = 16

-- the room for a datagram, which none of UDP passes, and for a piece
abbrev pub room_for_one : ℕ
room_for_one = 65536

-- how many lines and peers there are
pub record Ways : Type 0 where
  pub lines : ℕ
  pub peers : ℕ

-- the client's ends as they are now: whether its link with a peer is open, and what waits for it
pub record Ends : Type 0 where
  pub has : ℕ → Bool
  pub waits : ℕ → List ℕ

-- how many datagrams a line, and pieces a peer, gave one after another up to now
abbrev pub datagrams_from : ℕ → List LiveCall → ℕ
datagrams_from line (Receive l room bytes (received.Got n) ∷ before) =
    if l == line then datagrams_from line before + 1 else 0
datagrams_from line calls = 0

abbrev pub pieces_from : ℕ → List LiveCall → ℕ
pieces_from peer (Take p room bytes (taken.Got n) ∷ before) =
    if p == peer then pieces_from peer before + 1 else 0
pieces_from peer calls = 0

-- since the last wait a line or a peer gave as many as are taken: more may be left there
abbrev pub is_more_left : List LiveCall → Bool
is_more_left [] = false
is_more_left (Wait more answer ∷ before) = false
is_more_left (Receive line room bytes answer ∷ before) =
    (datagrams_from line (Receive line room bytes answer ∷ before) == most_datagrams)
    || is_more_left before
is_more_left (Take peer room bytes answer ∷ before) =
    (pieces_from peer (Take peer room bytes answer ∷ before) == most_pieces)
    || is_more_left before
is_more_left (call ∷ before) = is_more_left before

-- ---- A peer's turn
-- what waits is put; where nothing does, the turn is over, and this comes next
abbrev pub put_or : List ℕ → ℕ → Due → Due
put_or [] peer next = next
put_or (byte ∷ bytes) peer next = to.Put peer

-- what comes first in it, before what comes next
abbrev pub in_turn : Ends → List LiveCall → ℕ → Due → Due
in_turn e run peer next =
    if stands peer run then
    (if not (e.has peer) then to.Close peer
    else if nat_lt (pieces_from peer run) most_pieces then to.Take peer
    else put_or (e.waits peer) peer next)
    else if may_begin peer run then to.Open peer else next

-- the turns of so many peers, from this one on; behind the last one the wait
abbrev pub turns_from : Ends → List LiveCall → ℕ → ℕ → Due
turns_from e run zero peer = to.Wait (is_more_left run)
turns_from e run (suc left) peer = in_turn e run peer (turns_from e run left (peer + 1))

abbrev pub from_peer : Ways → Ends → List LiveCall → ℕ → Due
from_peer w e run peer = turns_from e run (w.peers - peer) peer

-- those of the lines; behind the last one those of the peers
abbrev pub from_line : Ways → Ends → List LiveCall → ℕ → Due
from_line w e run line = if nat_lt line w.lines then to.Receive line else from_peer w e run 0

-- what waits for a peer is put, and then its turn is over
abbrev pub put_first : Ways → Ends → List LiveCall → ℕ → Due
put_first w e run peer = put_or (e.waits peer) peer (from_peer w e run (peer + 1))

-- a line gave a datagram: it is asked again, until it has given as many as are taken
abbrev pub after_datagram : Ways → Ends → List LiveCall → ℕ → Due
after_datagram w e run line =
    if nat_lt (datagrams_from line run) most_datagrams then to.Receive line
    else from_line w e run (line + 1)

-- ---- What is due
-- after a run that ends with this call
abbrev pub due_after : Ways → Ends → List LiveCall → LiveCall → Option Due
due_after w e run (Wait more wait_end.Ready) = Some (from_line w e run 0)
due_after w e run (Wait more wait_end.Second) = Some (from_line w e run 0)
due_after w e run (Receive line room bytes (received.Got n)) = Some (after_datagram w e run line)
due_after w e run (Receive line room bytes received.Quiet) = Some (from_line w e run (line + 1))
due_after w e run (Open peer opened.Begun) = Some (put_first w e run peer)
due_after w e run (Open peer opened.Refused) = Some (from_peer w e run (peer + 1))
due_after w e run (Take peer room bytes (taken.Got n)) = Some (from_peer w e run peer)
due_after w e run (Take peer room bytes taken.Quiet) = Some (put_first w e run peer)
due_after w e run (Take peer room bytes taken.Ended) = Some (from_peer w e run (peer + 1))
due_after w e run (Put peer piece (put.Wrote n)) = Some (put_first w e run peer)
due_after w e run (Put peer piece put.Full) = Some (from_peer w e run (peer + 1))
due_after w e run (Put peer piece put.Ended) = Some (from_peer w e run (peer + 1))
due_after w e run (Close peer) = Some (from_peer w e run (peer + 1))
due_after w e run call = None

-- after such calls, the ends as they are then; none once the wait was over, or a call failed
abbrev pub due : Ways → Ends → List LiveCall → Option Due
due w e [] = Some (to.Wait false)
due w e (call ∷ before) = due_after w e (call ∷ before) call

-- such a call is made: a piece that is put is the first of what waits
abbrev pub IsMade : Ends → Due → LiveCall → Type 0
IsMade e (to.Wait more) (Wait told answer) = told ≡ more
IsMade e (to.Receive line) (Receive l room bytes answer) = (l ≡ line) × (room ≡ room_for_one)
IsMade e (to.Open peer) (Open p answer) = p ≡ peer
IsMade e (to.Take peer) (Take p room bytes answer) = (p ≡ peer) × (room ≡ room_for_one)
IsMade e (to.Put peer) (Put p piece answer) =
    (p ≡ peer) × (piece ≡ take room_for_one (e.waits peer))
IsMade e (to.Close peer) (Close p) = p ≡ peer
IsMade e what call = ⊥

-- after such calls this one is due
pub record IsDue (w : Ways) (e : Ends) (run : List LiveCall) (call : LiveCall) : Type 0 where
  pub what : Due
  pub due_is : due w e run ≡ Some what
  pub made : IsMade e what call
