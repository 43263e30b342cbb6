use Rattle.std.proofs.Common.{◌≡◌, take}
use Rattle.live_venue.specs.Standing.{Sends, all_outgoing}
use Rattle.live_venue.proofs.outbox.send_batches.Given as goal

abbrev pub invariant-batches : goal.invariant-batches
invariant-batches g l = record {
  sent : Sends (g.N.VenueNet.calls l.fn.net) (g.N.VenueNet.calls l.net) (all_outgoing (take l.batch-index l.batches));
  still : g.N.VenueNet.faults l.net ≡ g.N.VenueNet.faults l.fn.net;
}
