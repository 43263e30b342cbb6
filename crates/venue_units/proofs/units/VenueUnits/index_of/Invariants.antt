use Rattle.std.proofs.Common.{List}
use Rattle.venue_end.specs.declared.setup.VenueSetup.{VenueSetup}
use Rattle.venue_units.specs.Coming.{UnitCame}
use Rattle.venue_units.specs.Units.{UnitsStand}
use Rattle.venue_units.proofs.Making.{NoneIs}
use Rattle.venue_units.proofs.units.VenueUnits.index_of.Given as goal

abbrev pub invariant-ends : goal.invariant-ends
invariant-ends l = (s : List VenueSetup) (before : List UnitCame) → UnitsStand s l.self before → NoneIs s l.unit l.at
