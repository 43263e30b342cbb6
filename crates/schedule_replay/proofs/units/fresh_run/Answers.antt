use Rattle.std.proofs.Common.{refl}
use Rattle.schedule_replay.proofs.Parting.{ran_none}
use Rattle.schedule_replay.proofs.units.fresh_run.Goals as goal

pub returns-clause-ran : goal.returns-clause-ran
returns-clause-ran c = ran_none c.args.unit _ refl c.new.ensures.items c.new-2.ensures.items
