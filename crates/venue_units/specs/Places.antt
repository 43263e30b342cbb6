-- The places at which clients' connections stand. The first of a unit are at the door of its proxy,
-- and the others at that of its Spin Server.
use Rattle.std.specs.Prelude.{ℕ, ◌*◌, ◌/◌, ◌%◌, nat_le, Bool, true, false, not, ◌||◌, List, [], ◌∷◌}
use Rattle.std.specs.Prelude.{is_some, slice_get, Option, None, Some, if◌then◌else◌}
use Rattle.session_ends.specs.declared.closed.Closed.{Closed}
use Rattle.venue_end.specs.Came.{VenueCame, VenueState, ProxyMade, ProxyTook, ProxyPut, ProxyCut}
use Rattle.venue_end.specs.Came.{SpinMade, SpinTook, SpinPut, SpinCut, SpinPumped}
use Rattle.venue_end.specs.Feeding.{runs_on}
use Rattle.venue_end.specs.Servers.{proxy_setup, spin_setup}
use Rattle.venue_end.specs.Sessions.{session_of, waiting_in, closed_in}
use Rattle.venue_end.specs.declared.setup.VenueSetup.{VenueSetup}
use Rattle.venue_units.specs.Coming.{UnitCame, state_at, to_unit}

-- so many connections stand at a door at most
abbrev pub most_clients : ℕ
most_clients = 64

-- a unit has two doors
abbrev pub unit_places : ℕ
unit_places = 2 * most_clients

-- ---- A place
-- its unit; and whether it is at the door of the Spin Server
abbrev pub unit_of : ℕ → ℕ
unit_of place = place / unit_places

abbrev pub is_spin : ℕ → Bool
is_spin place = nat_le most_clients (place % unit_places)

-- ---- What comes to its unit's end
-- the session there has the place's number: its connection was made, bytes of it came, so many
-- bytes of what waits for it were put, and it was cut
abbrev pub made_at : ℕ → VenueCame
made_at place = if is_spin place then SpinMade place else ProxyMade place

abbrev pub took_at : ℕ → List ℕ → VenueCame
took_at place bytes = if is_spin place then SpinTook place bytes else ProxyTook place bytes

abbrev pub put_at : ℕ → ℕ → VenueCame
put_at place count = if is_spin place then SpinPut place count else ProxyPut place count

abbrev pub cut_at : ℕ → VenueCame
cut_at place = if is_spin place then SpinCut place else ProxyCut place

-- a Spin Server was asked for the next block of its image; a proxy is not asked for one
abbrev pub with_pump : ℕ → List UnitCame → List UnitCame
with_pump place before =
    if is_spin place then to_unit (unit_of place) (SpinPumped place) ∷ before else before

-- ---- What is seen of it, by what its unit's end stands for
-- a session stands there
abbrev pub has_in : ℕ → VenueState → Bool
has_in place now =
    if is_spin place then is_some (session_of place now.spins)
    else is_some (session_of place now.proxies)

-- what waits for it
abbrev pub waits_in : ℕ → VenueState → List ℕ
waits_in place now =
    if is_spin place then waiting_in (session_of place now.spins)
    else waiting_in (session_of place now.proxies)

-- why its server closed, if it did
abbrev pub cause_in : VenueSetup → ℕ → VenueState → Option Closed
cause_in setup place now =
    if is_spin place then closed_in (spin_setup setup) (session_of place now.spins)
    else closed_in (proxy_setup setup) (session_of place now.proxies)

-- there is no session, or its server has closed
abbrev pub is_shut_in : VenueSetup → ℕ → VenueState → Bool
is_shut_in setup place now = not (has_in place now) || is_some (cause_in setup place now)

-- its server still sends an image once the next block was asked for
abbrev pub runs_in : VenueSetup → ℕ → VenueState → Bool
runs_in setup place now =
    if is_spin place then runs_on setup (session_of place now.spins) else false

-- ---- By all that came
-- what is seen of a unit's end; `none` where there is no such unit
abbrev pub seen_of : {A : Type 0}
    → A → (VenueSetup → VenueState → A) → ℕ → List UnitCame → Option VenueSetup → A
seen_of none seen at came None = none
seen_of none seen at came (Some setup) = seen setup (state_at setup at came)

abbrev pub seen_at : {A : Type 0}
    → A → (VenueSetup → VenueState → A) → List VenueSetup → ℕ → List UnitCame → A
seen_at none seen s place came =
    seen_of none seen (unit_of place) came (slice_get s (unit_of place))

-- a session stands at a place
abbrev pub has_at : List VenueSetup → ℕ → List UnitCame → Bool
has_at s place came = seen_at false (λ setup now. has_in place now) s place came

-- what waits for it
abbrev pub waits_at : List VenueSetup → ℕ → List UnitCame → List ℕ
waits_at s place came = seen_at [] (λ setup now. waits_in place now) s place came

-- there is none, or its server has closed
abbrev pub is_shut_at : List VenueSetup → ℕ → List UnitCame → Bool
is_shut_at s place came = seen_at true (λ setup now. is_shut_in setup place now) s place came

-- its server still sends an image once the next block was asked for
abbrev pub runs_at : List VenueSetup → ℕ → List UnitCame → Bool
runs_at s place came = seen_at false (λ setup now. runs_in setup place now) s place came
