-- The lists that nets in memory keep of their calls.
use Rattle.std.specs.Prelude.{◌≡◌, Bool, true, false, List, ◌∷◌, map, reverse}
use Rattle.std.specs.Prelude.{Option, None, Some, if◌then◌else◌}
use Rattle.live_net.specs.LiveCalls as live
use Rattle.live_net.specs.LiveCalls.{LiveCall}
use Rattle.venue_net.specs.VenueCalls as venue
use Rattle.venue_net.specs.VenueCalls.{VenueCall}
use Rattle.scripted_nets.specs.declared.live_log.KeptLiveCall.{KeptLiveCall}
use Rattle.scripted_nets.specs.declared.live_log.KeptLiveCall.TheVariants as kept_live
use Rattle.scripted_nets.specs.declared.live_log.LiveLog.{LiveLog}
use Rattle.scripted_nets.specs.declared.venue_log.KeptVenueCall.{KeptVenueCall}
use Rattle.scripted_nets.specs.declared.venue_log.KeptVenueCall.TheVariants as kept_venue
use Rattle.scripted_nets.specs.declared.venue_log.VenueLog.{VenueLog}

-- a call as it is kept
abbrev pub live_call_of : KeptLiveCall → LiveCall
live_call_of (kept_live.Wait more answer) = live.Wait more answer
live_call_of (kept_live.Receive line room bytes answer) = live.Receive line room bytes.items answer
live_call_of (kept_live.Open peer answer) = live.Open peer answer
live_call_of (kept_live.Take peer room bytes answer) = live.Take peer room bytes.items answer
live_call_of (kept_live.Put peer piece answer) = live.Put peer piece.items answer
live_call_of (kept_live.Close peer) = live.Close peer

abbrev pub venue_call_of : KeptVenueCall → VenueCall
venue_call_of (kept_venue.Wait more answer) = venue.Wait more answer
venue_call_of (kept_venue.Read room bytes answer) = venue.Read room bytes.items answer
venue_call_of (kept_venue.Send line datagram) = venue.Send line datagram.items
venue_call_of (kept_venue.Accept place came) = venue.Accept place came
venue_call_of (kept_venue.Take place room bytes answer) = venue.Take place room bytes.items answer
venue_call_of (kept_venue.Put place piece answer) = venue.Put place piece.items answer
venue_call_of (kept_venue.Close place) = venue.Close place

-- the calls that are kept, the newest first, where none is missing
abbrev pub live_calls_of : LiveLog → Option (List LiveCall)
live_calls_of log = if log.whole then Some (reverse (map live_call_of log.calls.items)) else None

abbrev pub venue_calls_of : VenueLog → Option (List VenueCall)
venue_calls_of log = if log.whole then Some (reverse (map venue_call_of log.calls.items)) else None

-- with one call more
abbrev pub with_call : {C : Type 0} → Option (List C) → C → Option (List C)
with_call None newest = None
with_call (Some calls) newest = Some (newest ∷ calls)

-- a call was kept, or memory was refused, and the net lists no more
abbrev pub LeavesCalls : {C : Type 0} → Option (List C) → Option (List C) → C → Bool → Type 0
LeavesCalls old new newest true = new ≡ with_call old newest
LeavesCalls old new newest false = new ≡ None
