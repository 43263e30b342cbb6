use Rattle.std.specs.Result.{IsOk}
use Rattle.venue_units.specs.Places.{cut_at, made_at, unit_of}
use Rattle.venue_units.proofs.Routing.{err_comes, ok_comes}
use Rattle.venue_units.proofs.Standing.{comes_nowhere, not_none}
use Rattle.venue_units.proofs.units.VenueUnits.connect.Goals as goal

pub returns-in-None-clause-stands : goal.returns-in-None-clause-stands
returns-in-None-clause-stands c = comes_nowhere c.args.self.now c.unit_of.result (unit_of c.args.place) c.unit_of.ensures c.in-None.ensures.item.3 (made_at c.args.place)

pub returns-in-Some-clause-stands : goal.returns-in-Some-clause-stands
returns-in-Some-clause-stands c = ok_comes c.args.self.now c.unit_of.result (unit_of c.args.place) c.unit_of.ensures c.in-Some.end.now c.in-Some.ensures.item.3.0 c.in-Some.ensures.value c.connect_at.result c.connect_at.new.end (made_at c.args.place) c.connect_at.ensures.stands

pub returns-in-Some-clause-err : goal.returns-in-Some-clause-err
returns-in-Some-clause-err c = err_comes c.args.self.now c.unit_of.result (unit_of c.args.place) c.unit_of.ensures c.in-Some.end.now c.in-Some.ensures.item.3.0 c.in-Some.ensures.value c.connect_at.result c.connect_at.new.end (cut_at c.args.place) c.connect_at.ensures.err

pub returns-in-Some-clause-no_unit : goal.returns-in-Some-clause-no_unit
returns-in-Some-clause-no_unit c = not_none c.args.self.now c.unit_of.result (unit_of c.args.place) c.unit_of.ensures c.in-Some.end.now c.in-Some.ensures.item.3.0 c.in-Some.ensures.value (IsOk c.connect_at.result)
