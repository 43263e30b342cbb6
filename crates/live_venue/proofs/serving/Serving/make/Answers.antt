use Rattle.std.proofs.Common.{◌*◌, List, [], length, ap, subst}
use Rattle.venue_end.specs.declared.setup.VenueSetup.{VenueSetup}
use Rattle.venue_units.specs.Units.{UnitsStand}
use Rattle.live_venue.proofs.Starting.{starts}
use Rattle.live_venue.proofs.serving.Serving.make.Goals as goal

pub returns : goal.returns
returns c = λ start.
    starts c.args.setup.now start _ (128 * length c.units-units.result.now) (ap (λ (s : List VenueSetup). 128 * length s) c.units-units.ensures.units) c.in_ok-make.ensures
    (subst (λ (s : List VenueSetup). UnitsStand s c.in_ok-make-2.field-0 []) c.units-units.ensures.units c.in_ok-make-2.ensures.stand) c.make-3.ensures c.make-4.ensures
