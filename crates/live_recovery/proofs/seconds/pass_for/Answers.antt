use Rattle.live_recovery.proofs.Bringing.{passed_or_lost}
use Rattle.live_recovery.proofs.seconds.pass_for.Goals as goal

pub returns : goal.returns
returns c = passed_or_lost c.args.units.now c.second-passed.new.self c.args.unit c.second-passed.result c.second-passed.ensures.passes c.second-passed.ensures.err
