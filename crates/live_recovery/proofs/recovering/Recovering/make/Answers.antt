use Rattle.live_recovery.proofs.Starting.{starts}
use Rattle.live_recovery.proofs.recovering.Recovering.make.Goals as goal

pub returns : goal.returns
returns c = λ start.
    starts c.args.setup.now start c.in_ok-make.field-0 c.in_ok-make-2.field-0 c.in_ok-make-3.field-0 c.lines.result c.peer_count.result c.units.result.now c.account.result.now c.hold-hold.result
    c.lines.ensures c.peer_count.ensures.count c.units.ensures c.account.ensures c.hold-hold.ensures c.in_ok-make.ensures c.in_ok-make-2.ensures.stand c.in_ok-make-2.ensures.waits c.in_ok-make-3.ensures
