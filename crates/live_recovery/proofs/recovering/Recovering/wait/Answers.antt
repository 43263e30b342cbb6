use Rattle.std.proofs.Common.{refl}
use Rattle.live_net.specs.LiveCalls.{Wait}
use Rattle.live_net.specs.declared.live.WaitEnd.TheVariants as wait_end
use Rattle.live_turns.specs.declared.due.Due.TheVariants as to
use Rattle.live_recovery.specs.Standing.{devices, now_of}
use Rattle.live_recovery.specs.declared.recovering.Recovering.{Recovering}
use Rattle.live_recovery.proofs.Bringing.{same_now}
use Rattle.live_recovery.proofs.Ending.{ends_unflushed, ends_by_failing, steps_same}
use Rattle.live_recovery.proofs.Going.{goes_on, is_at_end}
use Rattle.live_recovery.proofs.recovering.Recovering.wait.Goals as goal

pub returns-in_err-flush-clause-steps : goal.returns-in_err-flush-clause-steps
returns-in_err-flush-clause-steps g c = λ s start about.
    let v = devices (g.N.LiveNet.calls c.args.net.now) (g.O.Sink.written c.flush.new.out) in
    steps_same s c.from_residual.result _ start v _ c.from_residual.ensures
    (ends_unflushed s start (devices (g.N.LiveNet.calls c.args.net.now) (g.O.Sink.written c.args.out.now)) c.args.self.now about.run about.came about.stands v refl
    (c.flush.ensures.grows s.listens start.written about.came about.stands.units) (c.in_err-flush.ensures.err s.listens start.written about.came about.stands.units))

pub returns-in-Ready-clause-steps : goal.returns-in-Ready-clause-steps
returns-in-Ready-clause-steps g c = λ s start about.
    let r : Recovering = c.args.self.now in
    let u = devices (g.N.LiveNet.calls c.args.net.now) (g.O.Sink.written c.args.out.now) in
    let v = devices (g.N.LiveNet.calls c.wait.new.self) (g.O.Sink.written c.flush.new.out) in
    goes_on s start u r (to.Wait c.args.more) about (Wait c.args.more wait_end.Ready) refl v (record r { turns = c.woken.new.self; units = c.flush.new.self }) about.came c.in-Ready.ensures.calls
    (same_now about.came r.units c.flush.new.self c.in_ok-flush.ensures.waits) (c.in_ok-flush.ensures.stand s.listens start.written about.came about.stands.units) refl (c.in_ok-flush.ensures.written s.listens start.written about.came about.stands.units) tt refl (c.woken.ensures c.args.more)

pub returns-in-Second-clause-steps : goal.returns-in-Second-clause-steps
returns-in-Second-clause-steps g c = λ s start about.
    let r : Recovering = c.args.self.now in
    let u = devices (g.N.LiveNet.calls c.args.net.now) (g.O.Sink.written c.args.out.now) in
    let v = devices (g.N.LiveNet.calls c.wait.new.self) (g.O.Sink.written c.flush.new.out) in
    let passed = c.pass_second.ensures s start.written (g.O.Sink.written c.flush.new.out) (now_of about.came r.units) about.came (c.in_ok-flush.ensures.stand s.listens start.written about.came about.stands.units)
    (same_now about.came r.units c.flush.new.self c.in_ok-flush.ensures.waits) in
    goes_on s start u r (to.Wait c.args.more) about (Wait c.args.more wait_end.Second) refl v (record r { turns = c.second.new.self; units = c.pass_second.new.units }) passed.came c.in-Second.ensures.calls passed.passes passed.stands
    refl (c.in_ok-flush.ensures.written s.listens start.written about.came about.stands.units) tt refl (c.second.ensures c.args.more)

pub returns-in-Over-clause-steps : goal.returns-in-Over-clause-steps
returns-in-Over-clause-steps g c = λ s start about.
    let r : Recovering = c.args.self.now in
    let u = devices (g.N.LiveNet.calls c.args.net.now) (g.O.Sink.written c.args.out.now) in
    let v = devices (g.N.LiveNet.calls c.wait.new.self) (g.O.Sink.written c.flush.new.out) in
    is_at_end s start u r (to.Wait c.args.more) about (Wait c.args.more wait_end.Over) refl v (record r { units = c.flush.new.self }) about.came c.in-Over.ensures.calls
    (same_now about.came r.units c.flush.new.self c.in_ok-flush.ensures.waits) (c.in_ok-flush.ensures.stand s.listens start.written about.came about.stands.units) refl (c.in_ok-flush.ensures.written s.listens start.written about.came about.stands.units) tt refl tt

pub returns-in-Failed-clause-steps : goal.returns-in-Failed-clause-steps
returns-in-Failed-clause-steps g c = λ s start about.
    let r : Recovering = c.args.self.now in
    let u = devices (g.N.LiveNet.calls c.args.net.now) (g.O.Sink.written c.args.out.now) in
    let v = devices (g.N.LiveNet.calls c.wait.new.self) (g.O.Sink.written c.flush.new.out) in
    ends_by_failing s start u r (to.Wait c.args.more) about (Wait c.args.more wait_end.Failed) refl v c.in-Failed.ensures.calls (now_of about.came c.flush.new.self)
    (same_now about.came r.units c.flush.new.self c.in_ok-flush.ensures.waits) (c.in_ok-flush.ensures.written s.listens start.written about.came about.stands.units) tt about.stands.agree.none (c.in_ok-flush.ensures.written s.listens start.written about.came about.stands.units)
