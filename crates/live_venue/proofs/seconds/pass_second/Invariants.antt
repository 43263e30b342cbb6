use Rattle.std.proofs.Common.{List}
use Rattle.venue_end.specs.declared.setup.VenueSetup.{VenueSetup}
use Rattle.live_venue.specs.Standing.{Passes}
use Rattle.live_venue.proofs.seconds.pass_second.Given as goal

abbrev pub invariant-units : goal.invariant-units
invariant-units l = (s : List VenueSetup) → Passes s l.at l.fn.units l.units
