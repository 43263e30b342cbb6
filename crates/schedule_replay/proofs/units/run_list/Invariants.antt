use Rattle.schedule_replay.proofs.Parting.{Walking}
use Rattle.schedule_replay.proofs.units.run_list.Given as goal

abbrev pub invariant-stretches : goal.invariant-stretches
invariant-stretches l = Walking l.text l.fn.run.unit l.list l.stretch-index l.fn.run l.run
