use Rattle.std.proofs.Common.{◌≡◌, ◌<◌, List, Option, Some, length, slice_get, arith, refl, subst}
use Rattle.std.proofs.lemmas.Option.{slice_get_read}
use Rattle.live_units.specs.declared.unit.LiveUnit.{LiveUnit}
use Rattle.live_units.proofs.units.LiveUnits.place.Goals as goal

pub returns : goal.returns
returns c =
    let places : List (Option LiveUnit) = c.places.result.now in
    let lt : c.args.unit < length places = omega arith in
    subst (λ (l : List (Option LiveUnit)). slice_get l c.args.unit ≡ Some c.index-places-unit.result) c.places.ensures.places
    (slice_get_read places (length places) c.args.unit c.index-places-unit.result refl lt c.index-places-unit.is)
