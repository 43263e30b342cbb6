use Rattle.std.proofs.Common.{refl}
use Rattle.live_recovery.specs.Standing.{devices}
use Rattle.live_recovery.proofs.Ending.{ends_done, ends_unbooked, ends_same}
use Rattle.live_recovery.proofs.recovering.Recovering.finish.Goals as goal

pub returns-in_err-finish-clause-ends : goal.returns-in_err-finish-clause-ends
returns-in_err-finish-clause-ends g c = λ s start calls end.
    let u = devices calls (g.O.Sink.written c.args.out.now) in
    let v = devices calls (g.O.Sink.written c.finish.new.out) in
    ends_same s c.from_residual.result _ start.calls calls start.written (g.O.Sink.written c.finish.new.out) c.from_residual.ensures
    (ends_unbooked s start u c.args.self.now end v refl (c.finish.ensures.grows s.listens start.written end.came end.stands.units) c.in_err-finish.field-0.0 (c.in_err-finish.ensures.ends s.listens start.written end.came end.stands.units))

pub returns-clause-ends : goal.returns-clause-ends
returns-clause-ends g c = λ s start calls end.
    let u = devices calls (g.O.Sink.written c.args.out.now) in
    let v = devices calls (g.O.Sink.written c.finish.new.out) in
    ends_done s start u c.args.self.now end v refl (c.finish.ensures.grows s.listens start.written end.came end.stands.units) (c.in_ok-finish.ensures.ends s.listens start.written end.came end.stands.units)
