use Rattle.venue_units.proofs.Making.{MadeTo}
use Rattle.venue_units.proofs.units.VenueUnits.make.Given as goal

abbrev pub invariant-setups : goal.invariant-setups
invariant-setups l = MadeTo l.setups l.setup-index l.ends.items
