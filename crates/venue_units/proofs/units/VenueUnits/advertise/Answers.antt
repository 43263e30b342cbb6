use Rattle.std.proofs.Common.{◌⊎◌, refl}
use Rattle.std.specs.Result.{IsOk}
use Rattle.pitch_model.proofs.Results.{on_err}
use Rattle.venue_end.specs.Came.{Advertised}
use Rattle.venue_units.specs.Units.{ComesAndCuts, StandStill}
use Rattle.venue_units.proofs.Routing.{still_or_cut}
use Rattle.venue_units.proofs.Standing.{comes_nowhere, comes_there, not_none, with_end}
use Rattle.venue_units.proofs.units.VenueUnits.advertise.Goals as goal

pub returns-in-None-clause-stands : goal.returns-in-None-clause-stands
returns-in-None-clause-stands c = comes_nowhere c.args.self.now c.args.at c.args.at refl c.in-None.ensures.item.3 Advertised

pub returns-in_ok-advertise-in-Some-clause-stands : goal.returns-in_ok-advertise-in-Some-clause-stands
returns-in_ok-advertise-in-Some-clause-stands c = comes_there c.args.self.now c.args.at c.args.at refl c.in-Some.end.now c.in-Some.ensures.item.3.0 c.in-Some.ensures.value c.advertise.new.self Advertised c.in_ok-advertise-in-Some.ensures.stands

pub returns-in_err-advertise-in-Some-clause-err : goal.returns-in_err-advertise-in-Some-clause-err
returns-in_err-advertise-in-Some-clause-err c = on_err (StandStill c.args.self.now (with_end c.args.self.now c.args.at c.advertise.new.self) ⊎ ComesAndCuts c.args.self.now (with_end c.args.self.now c.args.at c.advertise.new.self) c.args.at Advertised) _
    (still_or_cut c.args.self.now c.args.at c.args.at refl c.in-Some.end.now c.in-Some.ensures.item.3.0 c.in-Some.ensures.value c.advertise.new.self Advertised c.in_err-advertise-in-Some.ensures.err)

pub returns-in_err-advertise-in-Some-clause-no_unit : goal.returns-in_err-advertise-in-Some-clause-no_unit
returns-in_err-advertise-in-Some-clause-no_unit c = not_none c.args.self.now c.args.at c.args.at refl c.in-Some.end.now c.in-Some.ensures.item.3.0 c.in-Some.ensures.value (IsOk c.from_residual.result)
