use Rattle.std.proofs.Common.{refl}
use Rattle.venue_units.proofs.Standing.{end_none, end_there}
use Rattle.venue_units.proofs.units.VenueUnits.end_at.Goals as goal

pub returns-in-None : goal.returns-in-None
returns-in-None c = end_none c.args.self.now c.args.at c.args.at refl c.in-None.ensures.none

pub returns-in-Some : goal.returns-in-Some
returns-in-Some c = end_there c.args.self.now c.args.at c.args.at refl c.in-Some.end.now c.in-Some.ensures.there.0 c.in-Some.ensures.there.1
