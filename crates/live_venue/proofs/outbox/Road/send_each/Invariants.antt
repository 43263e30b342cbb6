use Rattle.std.proofs.Common.{◌≡◌, take}
use Rattle.unit_packets.specs.Packing.{bytes_in}
use Rattle.live_venue.specs.Standing.{Sends, each_on}
use Rattle.live_venue.proofs.outbox.Road.send_each.Given as goal

abbrev pub invariant-datagrams : goal.invariant-datagrams
invariant-datagrams g l = record {
  sent : Sends (g.N.VenueNet.calls l.fn.net) (g.N.VenueNet.calls l.net) (each_on l.self (bytes_in (take l.datagram-index l.datagrams)));
  still : g.N.VenueNet.faults l.net ≡ g.N.VenueNet.faults l.fn.net;
}
