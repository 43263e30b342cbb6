use Rattle.storm_replay.proofs.Turns.{storm_run, storm_worlds}
use Rattle.storm_replay.proofs.running.worlds_of.Goals as goal

pub returns-in-Ok-clause-run : goal.returns-in-Ok-clause-run
returns-in-Ok-clause-run g c =
    storm_run c.args.storm.number c.args.storm.units c.args.storm.steps _ (c.storms_are_read.ensures.reads c.args.storm.number c.args.storm.units c.args.storm.steps c.requires.units.1 c.requires.steps.1) c.in-Ok.ensures

pub returns-in-Ok-clause-each : goal.returns-in-Ok-clause-each
returns-in-Ok-clause-each g c = storm_worlds c.args.storm.number c.args.storm.units c.args.storm.steps _ c.in-Ok.ensures
