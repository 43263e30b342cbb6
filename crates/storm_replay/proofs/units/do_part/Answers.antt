use Rattle.std.proofs.Common.{◌≡◌, List, ◌++◌, sym, ap, ◌∙◌, subst}
use Rattle.std.specs.List.{AllByRecursion}
use Rattle.pitch_text.specs.WellFormed.{IsVerb}
use Rattle.pitch_text.specs.declared.verb.Verb.{Verb}
use Rattle.storm_replay.specs.layers.Parts.{part_verbs}
use Rattle.storm_replay.proofs.Reading.{part_given}
use Rattle.storm_replay.proofs.units.do_part.Goals as goal

pub do_verbs-requires : goal.do_verbs-requires
do_verbs-requires c =
    let verbs : List Verb = part_verbs c.args.number c.args.part c.args.unit in
    let is : c.deref.result.now ≡ verbs = c.deref.ensures.value ∙ c.in_ok-append_part.ensures ∙ ap (λ (l : List Verb). l ++ verbs) c.clear.ensures.items in
    subst (AllByRecursion IsVerb) (sym is) (part_given c.args.number c.args.unit c.args.part c.requires)
