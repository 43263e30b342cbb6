use Rattle.std.proofs.Common.{◌≡◌, false}
use Rattle.std.specs.Result.{IsOk}
use Rattle.pitch_model.proofs.Results.{on_ok_map}
use Rattle.venue_end.specs.Came.{SpinPumped}
use Rattle.venue_units.specs.Places.{has_in, is_spin, runs_in, unit_of, with_pump}
use Rattle.venue_units.specs.Units.{OfUnits, UnitsStand}
use Rattle.venue_units.proofs.Routing.{comes_or_not, err_still, if_ok_seen, none_comes}
use Rattle.venue_units.proofs.Standing.{seen_none, seen_there, with_end}
use Rattle.venue_units.proofs.units.VenueUnits.pump.Goals as goal

pub returns-in-None-clause-stands : goal.returns-in-None-clause-stands
returns-in-None-clause-stands c = none_comes c.args.self.now c.unit_of.result (unit_of c.args.place) c.unit_of.ensures c.in-None.ensures.item.3 (SpinPumped c.args.place) (is_spin c.args.place)

pub returns-in-None-clause-more : goal.returns-in-None-clause-more
returns-in-None-clause-more c = seen_none c.args.self.now c.unit_of.result (unit_of c.args.place) c.unit_of.ensures c.in-None.ensures.item.3 false (λ s now. runs_in s c.args.place now)

pub returns-in-Some-clause-stands : goal.returns-in-Some-clause-stands
returns-in-Some-clause-stands c = on_ok_map _ (OfUnits c.args.self.now (λ s before. UnitsStand s (with_end c.args.self.now c.unit_of.result c.pump_at.new.end) (with_pump c.args.place before))) c.pump_at.result c.pump_at.ensures.spin
    (λ comes. comes_or_not c.args.self.now c.unit_of.result (unit_of c.args.place) c.unit_of.ensures c.in-Some.end.now c.in-Some.ensures.item.3.0 c.in-Some.ensures.value c.pump_at.new.end (SpinPumped c.args.place) (is_spin c.args.place) comes c.pump_at.ensures.proxy)

pub returns-in-Some-clause-more : goal.returns-in-Some-clause-more
returns-in-Some-clause-more c = if_ok_seen c.args.self.now c.unit_of.result (unit_of c.args.place) c.unit_of.ensures c.in-Some.end.now c.in-Some.ensures.item.3.0 c.in-Some.ensures.value false (λ s now. runs_in s c.args.place now) c.pump_at.result c.pump_at.ensures.more

pub returns-in-Some-clause-err : goal.returns-in-Some-clause-err
returns-in-Some-clause-err c = err_still c.args.self.now c.unit_of.result (unit_of c.args.place) c.unit_of.ensures c.in-Some.end.now c.in-Some.ensures.item.3.0 c.in-Some.ensures.value c.pump_at.result c.pump_at.new.end c.pump_at.ensures.err

pub returns-in-Some-clause-none : goal.returns-in-Some-clause-none
returns-in-Some-clause-none c = seen_there c.args.self.now c.unit_of.result (unit_of c.args.place) c.unit_of.ensures c.in-Some.end.now c.in-Some.ensures.item.3.0 c.in-Some.ensures.value false (λ s now. has_in c.args.place now) (λ b. b ≡ false → IsOk c.pump_at.result) c.pump_at.ensures.none
