use Rattle.live_venue.proofs.Commanding.{hears_said}
use Rattle.live_venue.proofs.hearing.hear_said.Goals as goal

pub returns-in-Ok : goal.returns-in-Ok
returns-in-Ok c = hears_said c.args.before c.args.units.now c.hear_command.new.units c.hear_command.result c.args.said c.in-Ok.entry c.told_line.result c.in-Ok.is c.told_line.ensures c.hear_command.ensures
