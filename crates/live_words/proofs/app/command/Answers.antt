use Rattle.std.proofs.Common.{◌<◌, List, length, map, take, rules, subst, sym}
use Rattle.clap.specs.Walk.{Rule}
use Rattle.live_words.specs.layers.Building.{IsMade, rule_in}
use Rattle.pitch_words.proofs.Building.{one_more}
use Rattle.live_words.proofs.Building.{with_option}
use Rattle.live_words.proofs.app.command.Goals as goal

pub loop-listed-preserved : goal.loop-listed-preserved
loop-listed-preserved c =
    let place : c.loop-listed.listed-index < length c.args.options.now = search rules in
    subst (λ (listed : List Rule). IsMade c.args.name.now listed c.in_ok-command.command) (sym (one_more rule_in c.args.options.now c.loop-listed.listed-index _ place))
    (with_option c.args.name.now (map rule_in (take c.loop-listed.listed-index c.args.options.now)) _ c.loop-listed.command c.in_ok-command.command c.option.result
    c.loop-listed.invariant c.option.ensures.rule c.option.ensures.local c.in_ok-command.ensures)
