use Rattle.std.proofs.Common.{◌≡◌, List, Option, Result, IfOk, ◌++◌, ◌∷◌, [], Vec, Global, ap, ◌∙◌, subst}
use Rattle.std.specs.Option.{option_to_list}
use Rattle.std.specs.List.{AllByRecursion}
use Rattle.pitch_fields.proofs.Lists.{all_split}
use Rattle.schedule_replay.specs.layers.Runs.{Ran}
use Rattle.schedule_replay.specs.layers.Stretches.{StretchPart}
use Rattle.schedule_replay.specs.declared.units.UnitRun.{UnitRun}
use Rattle.schedule_replay.specs.declared.unrun.CantRunApart.{CantRunApart}
use Rattle.schedule_replay.proofs.Joining.{all_at}
use Rattle.schedule_replay.proofs.merging.put_pieces.Goals as goal

abbrev Piece : Type 0
Piece = Result (Vec UnitRun Global) CantRunApart

abbrev AreAll : List StretchPart → Piece → Type 0
AreAll parts piece = IfOk piece (λ runs. AllByRecursion (Ran parts) runs.items)

pub turns-init : goal.turns-init
turns-init c = λ parts are all. (are, all)

pub turns-preserved : goal.turns-preserved
turns-preserved c = λ parts are all.
    let so_far = c.turns.invariant parts are all in
    let rest : List Piece = c.pop.new.self.items in
    let parted : c.turns.pieces.items ≡ rest ++ c.in-Some.piece ∷ [] = c.pop.ensures.items ∙ ap (λ (o : Option Piece). rest ++ option_to_list o) c.in-Some.is in
    let split = all_split (AreAll parts) rest (c.in-Some.piece ∷ []) (subst (AllByRecursion (AreAll parts)) parted so_far.1) in (c.put_piece.ensures parts so_far.0 (subst (AreAll parts) c.in-Ok.is split.1.0), split.0)

pub returns : goal.returns
returns c = λ parts are each. (c.turns.invariant parts are (all_at (AreAll parts) c.args.pieces.items each)).0
