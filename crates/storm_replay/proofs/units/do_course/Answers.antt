use Rattle.std.proofs.Common.{List, [], ◌++◌, reverse, subst}
use Rattle.std.proofs.lemmas.Result.{on_ok_weaker}
use Rattle.pitch_text.specs.declared.verb.Verb.{Verb}
use Rattle.storm_replay.specs.Storm.{start_verbs, end_verbs}
use Rattle.world_model.specs.Stands.{WorldStands}
use Rattle.storm_replay.specs.layers.Units.{unit_steps}
use Rattle.storm_replay.proofs.Course.{course_whole}
use Rattle.storm_replay.proofs.units.do_course.Goals as goal

pub returns : goal.returns
returns c =
    let course : List Verb = unit_steps c.args.number c.args.unit c.args.steps in
    on_ok_weaker c.do_part-2.result
    (λ part limits stands.
    subst (WorldStands c.do_part-2.new.world c.args.unit limits) (course_whole start_verbs course (end_verbs c.args.steps))
    (part limits (reverse course ++ (reverse start_verbs ++ [])) (c.in_ok-do_steps.ensures limits (reverse start_verbs ++ []) (c.in_ok-do_part.ensures limits [] stands)))) c.do_part-2.ensures
