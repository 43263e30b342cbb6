-- Which call of its net a venue makes next. The calls of a run stand newest first; those that send
-- a datagram are left out of them, since a datagram is sent as soon as there is one.
use Rattle.std.specs.Prelude.{◌≡◌, ℕ, ◌+◌, ◌==◌, nat_lt, Bool, true, false, not, ◌||◌, ◌&&◌}
use Rattle.std.specs.Prelude.{List, [], ◌∷◌, take, length, Option, None, Some, if◌then◌else◌}
use Rattle.live_net.specs.declared.live.WaitEnd.TheVariants as wait_end
use Rattle.live_net.specs.declared.live.PeerTaken.TheVariants as taken
use Rattle.live_net.specs.declared.live.PeerPut.TheVariants as put
use Rattle.live_turns.specs.Due.{most_pieces, room_for_one}
use Rattle.venue_net.specs.VenueCalls.{VenueCall, Wait, Read, Accept, Take, Put, Close}
use Rattle.venue_net.specs.declared.net.InputRead.TheVariants as input
use Rattle.venue_turns.specs.declared.due.Due.{Due}
use Rattle.venue_turns.specs.declared.due.Due.TheVariants as to
use Rattle.venue_turns.specs.Standing.{stands, is_stuck}

-- how many places there are
pub record Ways : Type 0 where
  pub places : ℕ

-- the venue's ends as they are now: whether the one at a place has closed, or there is none; and
-- what waits for its client
pub record Ends : Type 0 where
  pub shut : ℕ → Bool
  pub waits : ℕ → List ℕ

-- more than this waits for no client for long
abbrev pub most_waiting : ℕ
most_waiting = 1048576

-- ---- What came, one after another up to now
-- how often the input gave bytes
abbrev pub reads_from : List VenueCall → ℕ
reads_from (Read room bytes (input.Got n) ∷ before) = reads_from before + 1
reads_from calls = 0

-- how many pieces a client gave, and took
abbrev pub pieces_from : ℕ → List VenueCall → ℕ
pieces_from place (Take p room bytes (taken.Got n) ∷ before) =
    if p == place then pieces_from place before + 1 else 0
pieces_from place calls = 0

abbrev pub puts_from : ℕ → List VenueCall → ℕ
puts_from place (Put p piece (put.Wrote n) ∷ before) =
    if p == place then puts_from place before + 1 else 0
puts_from place calls = 0

-- the input is at its end
abbrev pub is_read : List VenueCall → Bool
is_read [] = false
is_read (Read room bytes input.Ended ∷ before) = true
is_read (call ∷ before) = is_read before

-- since the last wait the input or a client gave, or a client took, as many pieces as are taken:
-- more may be left there
abbrev pub is_more_left : List VenueCall → Bool
is_more_left [] = false
is_more_left (Wait more answer ∷ before) = false
is_more_left (Read room bytes answer ∷ before) =
    (reads_from (Read room bytes answer ∷ before) == most_pieces) || is_more_left before
is_more_left (Take place room bytes answer ∷ before) =
    (pieces_from place (Take place room bytes answer ∷ before) == most_pieces)
    || is_more_left before
is_more_left (Put place piece answer ∷ before) =
    (puts_from place (Put place piece answer ∷ before) == most_pieces) || is_more_left before
is_more_left (call ∷ before) = is_more_left before

-- ---- A place's turn
-- its client is kept no longer: too much waits for it, or its connection had no room for too long
abbrev pub is_kept_no_longer : Ends → List VenueCall → ℕ → Bool
is_kept_no_longer e run place =
    nat_lt most_waiting (length (e.waits place)) || is_stuck place run

-- what comes first in it: where no connection stands, one may be let in; else its bytes are taken
abbrev pub first_of : Ends → List VenueCall → ℕ → Due
first_of e run place =
    if not (stands place run) then to.Accept place
    else if is_kept_no_longer e run place then to.Close place else to.Take place

-- what waits is put; where nothing does, this comes next
abbrev pub put_or : List ℕ → ℕ → Due → Due
put_or [] place next = next
put_or (byte ∷ bytes) place next = to.Put place

-- the turns of the places from this one on; behind the last one the wait
abbrev pub from_place : Ways → Ends → List VenueCall → ℕ → Due
from_place w e run place =
    if nat_lt place w.places then first_of e run place else to.Wait (is_more_left run)

-- what waits is put; where nothing does, a connection is closed whose end has closed, and else the
-- turn is over
abbrev pub put_first : Ways → Ends → List VenueCall → ℕ → Due
put_first w e run place = put_or (e.waits place) place
    (if e.shut place then to.Close place else from_place w e run (place + 1))

-- its client gave a piece: more is taken, until it has given as many as are taken in a turn, or its
-- end has closed
abbrev pub after_piece : Ways → Ends → List VenueCall → ℕ → Due
after_piece w e run place =
    if nat_lt (pieces_from place run) most_pieces && not (e.shut place) then to.Take place
    else put_first w e run place

-- its client took a piece: so it goes on, until it has taken as many
abbrev pub after_put : Ways → Ends → List VenueCall → ℕ → Due
after_put w e run place =
    if nat_lt (puts_from place run) most_pieces then put_first w e run place
    else from_place w e run (place + 1)

-- ---- The input
-- it is read before the places have their turns, until it is at its end
abbrev pub from_input : Ways → Ends → List VenueCall → Due
from_input w e run = if is_read run then from_place w e run 0 else to.Read

-- it gave bytes: it is read again, until it has given as many pieces as are taken
abbrev pub after_read : Ways → Ends → List VenueCall → Due
after_read w e run =
    if nat_lt (reads_from run) most_pieces then to.Read else from_place w e run 0

-- ---- What is due
-- after a run that ends with this call
abbrev pub due_after : Ways → Ends → List VenueCall → VenueCall → Option Due
due_after w e run (Wait more wait_end.Ready) = Some (from_input w e run)
due_after w e run (Wait more wait_end.Second) = Some (from_input w e run)
due_after w e run (Read room bytes (input.Got n)) = Some (after_read w e run)
due_after w e run (Read room bytes input.Quiet) = Some (from_place w e run 0)
due_after w e run (Read room bytes input.Ended) = Some (from_place w e run 0)
due_after w e run (Accept place true) = Some (from_place w e run place)
due_after w e run (Accept place false) = Some (from_place w e run (place + 1))
due_after w e run (Take place room bytes (taken.Got n)) = Some (after_piece w e run place)
due_after w e run (Take place room bytes taken.Quiet) = Some (put_first w e run place)
due_after w e run (Take place room bytes taken.Ended) = Some (from_place w e run (place + 1))
due_after w e run (Put place piece (put.Wrote n)) = Some (after_put w e run place)
due_after w e run (Put place piece put.Full) = Some (from_place w e run (place + 1))
due_after w e run (Put place piece put.Ended) = Some (from_place w e run (place + 1))
due_after w e run (Close place) = Some (from_place w e run (place + 1))
due_after w e run call = None

-- after such calls, the ends as they are then; none once the wait was over, or a call failed
abbrev pub due : Ways → Ends → List VenueCall → Option Due
due w e [] = Some (to.Wait false)
due w e (call ∷ before) = due_after w e (call ∷ before) call

-- such a call is made: a piece that is put is the first of what waits
abbrev pub IsMade : Ends → Due → VenueCall → Type 0
IsMade e (to.Wait more) (Wait told answer) = told ≡ more
IsMade e to.Read (Read room bytes answer) = room ≡ room_for_one
IsMade e (to.Accept place) (Accept p came) = p ≡ place
IsMade e (to.Take place) (Take p room bytes answer) = (p ≡ place) × (room ≡ room_for_one)
IsMade e (to.Put place) (Put p piece answer) =
    (p ≡ place) × (piece ≡ take room_for_one (e.waits place))
IsMade e (to.Close place) (Close p) = p ≡ place
IsMade e what call = ⊥

-- after such calls this one is due
pub record IsDue (w : Ways) (e : Ends) (run : List VenueCall) (call : VenueCall) : Type 0 where
  pub what : Due
  pub due_is : due w e run ≡ Some what
  pub made : IsMade e what call
