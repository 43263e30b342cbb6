use Rattle.std.proofs.Common.{◌≡◌, List, Vec, Global, Some, length, refl, sym, ap, ◌∙◌}
use Rattle.std.specs.List.{slice_get}
use Rattle.std.proofs.lemmas.Option.{slice_get_read}
use Rattle.schedule_replay.specs.layers.Stretches.{list_at, list_on}
use Rattle.schedule_replay.specs.declared.stretches.Stretch.{Stretch}
use Rattle.schedule_replay.proofs.Parting.{listed_run}
use Rattle.schedule_replay.proofs.units.run_listed.Goals as goal

pub returns-in-Some : goal.returns-in-Some
returns-in-Some c =
    let lists : List (Vec Stretch Global) = c.args.lists.now in
    let look = c.in-Some.ensures.lookup in
    let at : slice_get lists c.from.result ≡ Some c.in-Some.list.now = slice_get_read lists (length lists) c.from.result c.in-Some.list.now refl look.3.0 look.1 in
    let listed : c.deref.result.now ≡ list_at lists c.args.unit = c.deref.ensures.value ∙ ap list_on (sym at) ∙ ap (list_at lists) c.from.ensures in
    listed_run c.args.text.now c.args.unit lists c.deref.result.now c.run_stretches.result listed c.run_stretches.ensures.unit c.run_stretches.ensures.ran
