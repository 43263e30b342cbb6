use Rattle.std.proofs.Common.{List, reverse, sym, subst, ◌∙◌}
use Rattle.pitch_text.specs.declared.verb.ScheduleEntry.{ScheduleEntry}
use Rattle.world_model.specs.declared.world.World.{World}
use Rattle.storm_replay.specs.Summary.{storm_lines}
use Rattle.storm_replay.specs.layers.Running.{AreInTurn}
use Rattle.storm_replay.proofs.Lines.{summary_is}
use Rattle.storm_replay.proofs.Whole.{storm_whole}
use Rattle.storm_replay.proofs.running.summary_of.Goals as goal

pub returns-clause-text : goal.returns-clause-text
returns-clause-text c =
    let before : List ScheduleEntry = reverse (storm_lines c.args.storm.number c.args.storm.units c.args.storm.steps) in
    let each : AreInTurn before c.as_slice.result.now = subst (λ (ws : List World). AreInTurn before ws) (sym c.as_slice.ensures) c.requires.worlds.each in
    summary_is c.args.storm.number c.args.storm.units c.args.storm.steps c.new-text.result.items c.append_made.new.out.items c.append_worlds.new.out.items c.new-text.ensures.items c.in_ok-append_made.ensures (c.in_ok-append_worlds.ensures before each)

pub returns-clause-whole : goal.returns-clause-whole
returns-clause-whole c = returns-clause-text c ∙ storm_whole c.args.storm.number c.args.storm.units c.args.storm.steps c.requires.units c.requires.steps
