use Rattle.std.proofs.Common.{◌≡◌, List, Option, ◌++◌, ◌∷◌, [], ap, ◌∙◌, subst}
use Rattle.std.specs.Option.{option_to_list}
use Rattle.std.specs.List.{AllByRecursion}
use Rattle.pitch_fields.proofs.Lists.{all_split}
use Rattle.schedule_replay.specs.layers.Runs.{Ran}
use Rattle.schedule_replay.specs.declared.units.UnitRun.{UnitRun}
use Rattle.schedule_replay.proofs.merging.put_piece.Goals as goal

pub turns-init : goal.turns-init
turns-init c = λ parts are all. (are, all)

pub turns-preserved : goal.turns-preserved
turns-preserved c = λ parts are all.
    let so_far = c.turns.invariant parts are all in
    let rest : List UnitRun = c.pop.new.self.items in
    let parted : c.turns.runs.items ≡ rest ++ c.in-Some.run' ∷ [] = c.pop.ensures.items ∙ ap (λ (o : Option UnitRun). rest ++ option_to_list o) c.in-Some.is in
    let split = all_split (Ran parts) rest (c.in-Some.run' ∷ []) (subst (AllByRecursion (Ran parts)) parted so_far.1) in (c.put_run.ensures parts so_far.0 split.1.0, split.0)

pub returns : goal.returns
returns c = λ parts are all. (c.turns.invariant parts are all).0
