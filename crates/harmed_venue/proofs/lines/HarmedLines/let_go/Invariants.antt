use Rattle.std.proofs.Common.{◌≡◌, take}
use Rattle.harmed_venue.specs.Harmed.{all_held}
use Rattle.harmed_venue.specs.Lines.{let_go}
use Rattle.harmed_venue.specs.Venues.{Makes}
use Rattle.harmed_venue.proofs.Sending.{partly}
use Rattle.harmed_venue.proofs.lines.HarmedLines.let_go.Given as goal

abbrev pub invariant-lines : goal.invariant-lines
invariant-lines g l = record {
  lines : l.line-items ≡ partly let_go l.fn.self l.line-index;
  makes : Makes (g.N.VenueNet.calls l.fn.net) (g.N.VenueNet.calls l.net) (all_held (take l.line-index l.fn.self));
  still : g.N.VenueNet.faults l.net ≡ g.N.VenueNet.faults l.fn.net;
}
