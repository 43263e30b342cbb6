use Rattle.std.proofs.Common.{◌≡◌, ◌+◌, ℕ, List, ◌++◌, reverse, sym, subst, arith}
use Rattle.pitch_text.specs.declared.verb.Verb.{Verb}
use Rattle.world_model.specs.Stands.{WorldStands}
use Rattle.storm_replay.specs.layers.Units.{unit_steps}
use Rattle.storm_replay.proofs.Course.{no_steps, steps_next}
use Rattle.storm_replay.proofs.units.do_steps.Goals as goal

pub steps-init : goal.steps-init
steps-init c = λ limits done stands. subst (λ (l : List Verb). WorldStands c.args.world.now c.args.unit limits (reverse l ++ done)) (sym (no_steps c.args.number c.args.unit)) stands

pub steps-preserved : goal.steps-preserved
steps-preserved c = λ limits done stands.
    subst (WorldStands c.do_part.new.world c.args.unit limits) (steps_next c.args.number c.args.unit c.steps.index (c.steps.index + 1) done (omega arith))
    (c.in_ok-do_part.ensures limits (reverse (unit_steps c.args.number c.args.unit c.steps.index) ++ done) (c.steps.invariant limits done stands))

pub returns : goal.returns
returns c = λ limits done stands.
    let end : c.steps.index ≡ c.args.steps = omega (arith, c.steps-test.false, c.steps.auto.index-end) in
    subst (λ (n : ℕ). WorldStands c.steps.world c.args.unit limits (reverse (unit_steps c.args.number c.args.unit n) ++ done)) end (c.steps.invariant limits done stands)
