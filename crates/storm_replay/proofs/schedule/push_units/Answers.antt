use Rattle.std.proofs.Common.{◌≡◌, ◌+◌, ℕ, ◌++◌, ap, ◌∙◌, arith}
use Rattle.storm_replay.specs.layers.Parts.{part_by_each}
use Rattle.pitch_text.specs.Printing.{lines_text}
use Rattle.storm_replay.proofs.Storms.{units_step, no_units}
use Rattle.storm_replay.proofs.schedule.push_units.Goals as goal

pub units-init : goal.units-init
units-init c = no_units c.args.storm.number c.args.part c.args.text.now.items

pub units-preserved : goal.units-preserved
units-preserved c = units_step c.args.storm.number c.units.index (c.units.index + 1) c.args.part c.args.text.now.items c.units.text.items _ (omega arith) c.units.invariant c.in_ok-push_part.ensures

pub returns : goal.returns
returns c =
    let end : c.units.index ≡ c.args.storm.units = omega (arith, c.units-test.false, c.units.auto.index-end) in
    c.units.invariant ∙ ap (λ (n : ℕ). c.args.text.now.items ++ lines_text (part_by_each c.args.storm.number n c.args.part)) end
