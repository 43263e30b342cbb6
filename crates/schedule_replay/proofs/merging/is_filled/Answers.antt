use Rattle.std.proofs.Common.{◌≡◌, List, Option, Some, length, refl, sym, ap, ◌∙◌}
use Rattle.std.specs.List.{slice_get}
use Rattle.std.proofs.lemmas.Option.{slice_get_read, slice_get_past}
use Rattle.world_model.specs.declared.world.World.{World}
use Rattle.schedule_replay.specs.layers.Runs.{is_filled}
use Rattle.schedule_replay.proofs.merging.is_filled.Goals as goal

pub returns-in-Some-Some : goal.returns-in-Some-Some
returns-in-Some-Some c =
    let places : List (Option World) = c.args.places.now in
    let look = c.in-Some-Some.ensures.lookup in
    let at : slice_get places c.args.unit ≡ Some c.in-Some-Some.field-0.now = slice_get_read places (length places) c.args.unit c.in-Some-Some.field-0.now refl look.3.0 look.1 in
    sym (ap is_filled (at ∙ ap (λ (p : Option World). Some p) c.in-Some-Some.field-0-is))

pub returns-in-Some-None : goal.returns-in-Some-None
returns-in-Some-None c =
    let places : List (Option World) = c.args.places.now in
    let look = c.in-Some-None.ensures.lookup in
    let at : slice_get places c.args.unit ≡ Some c.in-Some-None.field-0.now = slice_get_read places (length places) c.args.unit c.in-Some-None.field-0.now refl look.3.0 look.1 in
    sym (ap is_filled (at ∙ ap (λ (p : Option World). Some p) c.in-Some-None.field-0-is))

pub returns-in-None : goal.returns-in-None
returns-in-None c = sym (ap is_filled (slice_get_past c.args.places.now c.args.unit c.in-None.ensures.lookup.3))
