use Rattle.std.proofs.Common.{◌≡◌, List, length, Option}
use Rattle.venue_net.specs.VenueCalls.{VenueCall}
use Rattle.live_venue.specs.Standing.{GoesOn}
use Rattle.live_venue.proofs.service.run.Given as goal

abbrev pub invariant-calls : goal.invariant-calls
invariant-calls g l = record {
  goes : (start : Option (List VenueCall)) → GoesOn l.setup start (g.N.VenueNet.calls l.fn.net) l.fn.serving → GoesOn l.setup start (g.N.VenueNet.calls l.net) l.serving;
  place : length l.into.items ≡ 65536;
  still : g.N.VenueNet.faults l.net ≡ g.N.VenueNet.faults l.fn.net;
}
