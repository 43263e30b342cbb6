use Rattle.std.proofs.Common.{rules, refl, length}
use Rattle.std.proofs.lemmas.Option.{slice_get_read}
use Rattle.run_audit.proofs.Walking.{at_next}
use Rattle.run_audit.proofs.walk.starts.Goals as goal

pub loop-log-preserved : goal.loop-log-preserved
loop-log-preserved c = at_next c.args.logs.now c.loop-log.log-index c.loop-log.walks.items c.push.new.self.items c.log-item.result c.at_start.result c.loop-log.invariant
    (slice_get_read c.args.logs.now (length c.args.logs.now) c.loop-log.log-index c.log-item.result refl (search rules) c.log-item.is) c.at_start.ensures.at (search rules)
