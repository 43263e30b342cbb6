use Rattle.venue_units.specs.Places.{put_at, unit_of}
use Rattle.venue_units.proofs.Standing.{comes_nowhere, comes_there}
use Rattle.venue_units.proofs.units.VenueUnits.put.Goals as goal

pub returns-in-None : goal.returns-in-None
returns-in-None c = record { stands = comes_nowhere c.args.self.now c.unit_of.result (unit_of c.args.place) c.unit_of.ensures c.in-None.ensures.item.3 (put_at c.args.place c.args.count) }

pub returns-in-Some : goal.returns-in-Some
returns-in-Some c = record {
  stands = comes_there c.args.self.now c.unit_of.result (unit_of c.args.place) c.unit_of.ensures c.in-Some.end.now c.in-Some.ensures.item.3.0 c.in-Some.ensures.value c.put_at.new.end (put_at c.args.place c.args.count) c.put_at.ensures;
}
