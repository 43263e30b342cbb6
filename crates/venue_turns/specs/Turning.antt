-- Turns between two calls of a net.
use Rattle.std.specs.Prelude.{◌≡◌, ◌<◌, ◌≤◌, ℕ, ◌+◌, min, Bool, true, false, List, ◌∷◌}
use Rattle.std.specs.Prelude.{length, slice_get, Option, None, Some, IfSome, IfNone}
use Rattle.live_turns.specs.Due.{most_pieces}
use Rattle.venue_net.specs.VenueCalls.{VenueCall, Wait, Read, Accept, Take, Put, Close}
use Rattle.venue_turns.specs.Due.{Ways, Ends, IsMade, due, from_place, after_piece, put_first}
use Rattle.venue_turns.specs.Due.{is_more_left, is_read, reads_from, pieces_from, puts_from}
use Rattle.venue_turns.specs.Standing.{stands, is_full, seconds_full, longest_stall}
use Rattle.venue_turns.specs.declared.due.Due.{Due}
use Rattle.venue_turns.specs.declared.due.Due.TheVariants as to
use Rattle.venue_turns.specs.declared.link.Link.{Link}
use Rattle.venue_turns.specs.declared.link.Link.TheVariants.{Free, Open, Full}
use Rattle.venue_turns.specs.declared.place.Place.{Place}
use Rattle.venue_turns.specs.declared.place.Place.TheVariants as at
use Rattle.venue_turns.specs.declared.turns.VenueTurns.{VenueTurns}

-- ---- A connection
-- none stands; one does that has room; or it has had none for so many seconds
abbrev pub IsLink : Link → (stands full : Bool) → (seconds : ℕ) → Type 0
IsLink Free stands full seconds = stands ≡ false
IsLink Open stands full seconds = (stands ≡ true) × (full ≡ false)
IsLink (Full counted) stands full seconds =
    (stands ≡ true) × (full ≡ true) × (counted ≡ min seconds longest_stall)

-- after such calls the connection at a place is so
pub record Knows (place : ℕ) (run : List VenueCall) (l : Link) : Type 0 where
  pub link_is : IsLink l (stands place run) (is_full place run) (seconds_full place run)

-- each place's is
abbrev pub KnowEach : List VenueCall → VenueTurns → Type 0
KnowEach run t = (place : ℕ) (l : Link)
    → slice_get t.links.items place ≡ Some l → Knows place run l

-- ---- The turn
-- the place whose turn it is, if one's is
abbrev pub place_at : Place → Option ℕ
place_at at.Wait = None
place_at (at.Input read) = None
place_at (at.First place) = Some place
place_at (at.Taken place taken) = Some place
place_at (at.Put place wrote) = Some place

-- how many pieces came or went in it, one after another
abbrev pub pieces_at : Place → ℕ
pieces_at at.Wait = 0
pieces_at (at.Input read) = read
pieces_at (at.First place) = 0
pieces_at (at.Taken place taken) = taken
pieces_at (at.Put place wrote) = wrote

-- what is due there
abbrev pub due_at : Ways → Ends → List VenueCall → Place → Due
due_at w e run at.Wait = to.Wait (is_more_left run)
due_at w e run (at.Input read) = to.Read
due_at w e run (at.First place) = from_place w e run place
due_at w e run (at.Taken place taken) = after_piece w e run place
due_at w e run (at.Put place wrote) = put_first w e run place

-- its place is one of those that there are, it knows how many pieces came or went, fewer than are
-- taken, and the client whose bytes are taken next gave none yet
abbrev pub IsPlace : Ways → List VenueCall → Place → Type 0
IsPlace w run at.Wait = Unit {0}
IsPlace w run (at.Input read) = (read < most_pieces) × (read ≡ reads_from run)
IsPlace w run (at.First place) = (place < w.places) × (pieces_from place run ≡ 0)
IsPlace w run (at.Taken place taken) =
    (place < w.places) × (0 < taken) × (taken < most_pieces) × (taken ≡ pieces_from place run)
IsPlace w run (at.Put place wrote) =
    (place < w.places) × (wrote < most_pieces) × (wrote ≡ puts_from place run)
    × (pieces_from (place + 1) run ≡ 0)

-- ---- The turns
-- they are those of so many places
pub record AreWays (w : Ways) (t : VenueTurns) : Type 0 where
  pub places_are : length t.links.items ≡ w.places
  pub few : w.places ≤ 65535

-- after such calls, and with such ends, they are so
pub record TurnsStand (w : Ways) (e : Ends) (t : VenueTurns) (run : List VenueCall)
    : Type 0 where
  pub ways : AreWays w t
  pub each : KnowEach run t
  pub place_is : IsPlace w run t.place
  pub due_is : due w e run ≡ Some (due_at w e run t.place)
  pub more_is : t.more ≡ is_more_left run
  pub over_is : t.over ≡ is_read run

-- the end at the place whose turn it is is shut or not, and so many bytes wait for its client
abbrev pub IsSeen : Ends → Place → Bool → ℕ → Type 0
IsSeen e place shut waiting = IfSome (place_at place)
    (λ at. (shut ≡ e.shut at) × (waiting ≡ length (e.waits at)))

-- such a call is one of this turn
abbrev pub IsAt : Place → VenueCall → Type 0
IsAt at.Wait (Wait more answer) = Unit {0}
IsAt (at.Input read) (Read room bytes answer) = Unit {0}
IsAt (at.First place) (Accept p came) = p ≡ place
IsAt (at.First place) (Take p room bytes answer) = p ≡ place
IsAt (at.First place) (Close p) = p ≡ place
IsAt (at.Taken place taken) (Take p room bytes answer) = p ≡ place
IsAt (at.Put place wrote) (Put p piece answer) = p ≡ place
IsAt (at.Put place wrote) (Close p) = p ≡ place
IsAt place call = ⊥

-- this is due, and who makes that call is at its turn
pub record IsNext (w : Ways) (e : Ends) (run : List VenueCall) (place : Place) (what : Due)
    : Type 0 where
  pub due_is : due w e run ≡ Some what
  pub is_at : (call : VenueCall) → IsMade e what call → IsAt place call

-- the turn of this place, or the wait
abbrev pub IsFrom : ℕ → Place → Type 0
IsFrom place at.Wait = Unit {0}
IsFrom place (at.First other) = other ≡ place
IsFrom place that = ⊥

-- one comes behind another: what waits for a client is put once its bytes were taken, and then the
-- next place has its turn, or the wait is due
abbrev pub IsBehind : Place → Place → Type 0
IsBehind (at.Taken place taken) (at.Put other wrote) = other ≡ place
IsBehind (at.Put place wrote) that = IsFrom (place + 1) that
IsBehind before that = ⊥

-- the turns still stand, and this is due, where it is anything; else they have moved on
pub record Answers (w : Ways) (e : Ends) (run : List VenueCall) (before : Place) (t : VenueTurns)
    (answer : Option Due) : Type 0 where
  pub stands : TurnsStand w e t run
  pub next : IfSome answer (IsNext w e run t.place)
  pub behind : IfNone answer (IsBehind before t.place)

-- whatever calls there were, the turns stand for them and this one, where it is of their turn,
-- whatever the ends are by then
abbrev pub Passes : VenueTurns → VenueTurns → VenueCall → Type 0
Passes t t' call = (w : Ways) (e e' : Ends) (run : List VenueCall)
    → TurnsStand w e t run → IsAt t.place call → TurnsStand w e' t' (call ∷ run)
