use Rattle.std.proofs.Common.{◌≡◌, ◌+◌, ℕ, ◌++◌, ap, ◌∙◌, arith}
use Rattle.storm_replay.specs.Storm.{storm_steps}
use Rattle.pitch_text.specs.Printing.{lines_text}
use Rattle.storm_replay.proofs.Storms.{steps_step, none_yet}
use Rattle.storm_replay.proofs.schedule.push_steps.Goals as goal

pub steps-init : goal.steps-init
steps-init c = none_yet c.args.storm.number c.args.storm.units c.args.text.now.items

pub steps-preserved : goal.steps-preserved
steps-preserved c = steps_step c.args.storm.number c.args.storm.units c.steps.index (c.steps.index + 1) c.args.text.now.items c.steps.text.items _ (omega arith) c.steps.invariant c.in_ok-push_units.ensures

pub returns : goal.returns
returns c =
    let end : c.steps.index ≡ c.args.storm.steps = omega (arith, c.steps-test.false, c.steps.auto.index-end) in
    c.steps.invariant ∙ ap (λ (n : ℕ). c.args.text.now.items ++ lines_text (storm_steps c.args.storm.number c.args.storm.units n)) end
