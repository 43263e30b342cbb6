use Rattle.std.proofs.Common.{refl}
use Rattle.std.specs.Result.{IsOk}
use Rattle.venue_end.specs.Came.{Second}
use Rattle.venue_units.proofs.Routing.{err_cuts, ok_comes}
use Rattle.venue_units.proofs.Standing.{comes_nowhere, not_none}
use Rattle.venue_units.proofs.units.VenueUnits.second.Goals as goal

pub returns-in-None-clause-stands : goal.returns-in-None-clause-stands
returns-in-None-clause-stands c = comes_nowhere c.args.self.now c.args.at c.args.at refl c.in-None.ensures.item.3 Second

pub returns-in-Some-clause-stands : goal.returns-in-Some-clause-stands
returns-in-Some-clause-stands c = ok_comes c.args.self.now c.args.at c.args.at refl c.in-Some.end.now c.in-Some.ensures.item.3.0 c.in-Some.ensures.value c.second.result c.second.new.self Second c.second.ensures.stands

pub returns-in-Some-clause-err : goal.returns-in-Some-clause-err
returns-in-Some-clause-err c = err_cuts c.args.self.now c.args.at c.args.at refl c.in-Some.end.now c.in-Some.ensures.item.3.0 c.in-Some.ensures.value c.second.result c.second.new.self Second c.second.ensures.err

pub returns-in-Some-clause-no_unit : goal.returns-in-Some-clause-no_unit
returns-in-Some-clause-no_unit c = not_none c.args.self.now c.args.at c.args.at refl c.in-Some.end.now c.in-Some.ensures.item.3.0 c.in-Some.ensures.value (IsOk c.second.result)
