use Rattle.std.proofs.Common.{◌≡◌, List, ◌++◌, sym, ap, ◌∙◌, subst}
use Rattle.std.specs.List.{AllByRecursion}
use Rattle.pitch_text.specs.WellFormed.{IsWellFormed}
use Rattle.pitch_text.specs.declared.verb.Verb.{Verb}
use Rattle.storm_replay.specs.layers.Parts.{part_verbs}
use Rattle.storm_replay.proofs.Reading.{part_given, part_well_formed}
use Rattle.storm_replay.proofs.schedule.push_part.Goals as goal

pub push_lines-requires : goal.push_lines-requires
push_lines-requires c =
    let verbs : List Verb = part_verbs c.args.number c.args.part c.args.unit in
    let is : c.deref.result.now ≡ verbs = c.deref.ensures.value ∙ c.in_ok-append_part.ensures ∙ ap (λ (l : List Verb). l ++ verbs) c.new-verbs.ensures.items in
    subst (AllByRecursion (IsWellFormed c.args.unit)) (sym is) (part_well_formed c.args.unit verbs c.requires.unit.0 c.requires.unit.1 (part_given c.args.number c.args.unit c.args.part c.requires.part))
