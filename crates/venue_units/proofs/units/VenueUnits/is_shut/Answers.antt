use Rattle.std.proofs.Common.{◌≡◌, true}
use Rattle.venue_units.specs.Places.{is_shut_in, unit_of}
use Rattle.venue_units.proofs.Standing.{seen_none, seen_there}
use Rattle.venue_units.proofs.units.VenueUnits.is_shut.Goals as goal

pub returns-in-None : goal.returns-in-None
returns-in-None c = seen_none c.args.self.now c.unit_of.result (unit_of c.args.place) c.unit_of.ensures c.in-None.ensures.none true (λ s now. is_shut_in s c.args.place now)

pub returns-in-Some : goal.returns-in-Some
returns-in-Some c = seen_there c.args.self.now c.unit_of.result (unit_of c.args.place) c.unit_of.ensures c.in-Some.end.now c.in-Some.ensures.there.0 c.in-Some.ensures.there.1 true (λ s now. is_shut_in s c.args.place now) (λ b. c.is_shut_at.result ≡ b) c.is_shut_at.ensures
