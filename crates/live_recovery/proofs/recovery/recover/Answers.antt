use Rattle.std.proofs.Common.{rules, ◌≡◌, ◌≤◌, Bool, true, false, ℕ, List, ◌++◌, length, drop, Ok, Err, refl, ap, ◌∙◌, subst, arith, length-append, length-drop, length-take}
use Rattle.stream_print.proofs.Taking.{later_cause}
use Rattle.live_recovery.specs.Standing.{devices, Steps}
use Rattle.live_recovery.specs.declared.error.RecoverError.TheVariants as errors
use Rattle.live_recovery.proofs.Ending.{ends_none, ends_spent, ends_same, same_answer, names_same, done_names_none}
use Rattle.live_recovery.proofs.recovery.recover.Goals as goal

pub returns-in_err-recovering-clause-ends : goal.returns-in_err-recovering-clause-ends
returns-in_err-recovering-clause-ends g c =
    ends_same c.args.setup.now c.from_residual.result _ (g.N.LiveNet.calls c.args.net.now) (g.N.LiveNet.calls c.args.net.now) (g.O.Sink.written c.args.out.now) (g.O.Sink.written c.args.out.now) c.from_residual.ensures
    (ends_none c.args.setup.now (g.N.LiveNet.calls c.args.net.now) (g.O.Sink.written c.args.out.now))

pub returns-in_err-into-clause-ends : goal.returns-in_err-into-clause-ends
returns-in_err-into-clause-ends g c =
    ends_same c.args.setup.now c.from_residual-in_err-into.result _ (g.N.LiveNet.calls c.args.net.now) (g.N.LiveNet.calls c.args.net.now) (g.O.Sink.written c.args.out.now) (g.O.Sink.written c.args.out.now) c.from_residual-in_err-into.ensures
    (ends_none c.args.setup.now (g.N.LiveNet.calls c.args.net.now) (g.O.Sink.written c.args.out.now))

pub calls-init : goal.calls-init
calls-init g c = record {
  goes = c.in_ok-recovering.ensures (devices (g.N.LiveNet.calls c.args.net.now) (g.O.Sink.written c.args.out.now));
  place = c.in_ok-into.ensures;
  still = refl;
  later = omega arith;
}

pub returns-in_err-goes_on-clause-ends : goal.returns-in_err-goes_on-clause-ends
returns-in_err-goes_on-clause-ends g c =
    let goes = c.calls.invariant.goes in
    ends_same c.args.setup.now c.from_residual-in_err-goes_on.result _ (g.N.LiveNet.calls c.args.net.now) (g.N.LiveNet.calls c.step.new.net) (g.O.Sink.written c.args.out.now) (g.O.Sink.written c.step.new.out)
    c.from_residual-in_err-goes_on.ensures
    (c.in_err-goes_on.ensures.steps (devices (g.N.LiveNet.calls c.args.net.now) (g.O.Sink.written c.args.out.now)) goes)

pub returns-in_err-goes_on-clause-net_cause : goal.returns-in_err-goes_on-clause-net_cause
returns-in_err-goes_on-clause-net_cause g c =
    let still = c.calls.invariant.still in
    later_cause (g.N.LiveNet.faults c.args.net.now) (g.N.LiveNet.faults c.calls.net) (g.N.LiveNet.faults c.step.new.net) _ _ (omega (arith, still)) c.in_err-goes_on.ensures.net_cause
    (λ e. ap Err (same_answer c.from_residual-in_err-goes_on.result _ errors.Net c.from_residual-in_err-goes_on.ensures e))

pub returns-in_err-goes_on-clause-write_cause : goal.returns-in_err-goes_on-clause-write_cause
returns-in_err-goes_on-clause-write_cause g c =
    later_cause (g.O.Sink.faults c.args.out.now) (g.O.Sink.faults c.calls.out) (g.O.Sink.faults c.step.new.out) _ _ c.calls.invariant.later c.in_err-goes_on.ensures.write_cause
    (λ e. ap Err (same_answer c.from_residual-in_err-goes_on.result _ errors.Write c.from_residual-in_err-goes_on.ensures e))

pub returns-in_err-goes_on-clause-net_still : goal.returns-in_err-goes_on-clause-net_still
returns-in_err-goes_on-clause-net_still g c = λ none.
    c.in_err-goes_on.ensures.net_still (names_same c.from_residual-in_err-goes_on.result _ c.from_residual-in_err-goes_on.ensures none) ∙ c.calls.invariant.still

pub returns-then-not-goes_on-clause-ends : goal.returns-then-not-goes_on-clause-ends
returns-then-not-goes_on-clause-ends g c =
    let goes = c.calls.invariant.goes in
    let start = devices (g.N.LiveNet.calls c.args.net.now) (g.O.Sink.written c.args.out.now) in
    let over : c.in_ok-goes_on.goes_on ≡ false = search rules in
    let at = subst (λ (b : Bool). Steps c.args.setup.now (Ok b) start (devices (g.N.LiveNet.calls c.step.new.net) (g.O.Sink.written c.step.new.out)) c.step.new.self) over (c.in_ok-goes_on.ensures.steps start goes) in
    c.finish.ensures.ends c.args.setup.now start (g.N.LiveNet.calls c.step.new.net) at

pub returns-then-not-goes_on-clause-net_cause : goal.returns-then-not-goes_on-clause-net_cause
returns-then-not-goes_on-clause-net_cause g c =
    let still = c.in_ok-goes_on.ensures.net_still (done_names_none c.in_ok-goes_on.goes_on) ∙ c.calls.invariant.still in
    record { later = omega (arith, still); rose = λ e. absurd (c.finish.ensures.not_net e) }

pub returns-then-not-goes_on-clause-write_cause : goal.returns-then-not-goes_on-clause-write_cause
returns-then-not-goes_on-clause-write_cause g c =
    let before = c.calls.invariant.later in
    let more = c.step.ensures.write_cause.later in
    later_cause (g.O.Sink.faults c.args.out.now) (g.O.Sink.faults c.step.new.out) (g.O.Sink.faults c.finish.new.out) _ _ (omega (arith, before, more)) c.finish.ensures.write_cause (λ e. e)

pub returns-then-not-goes_on-clause-net_still : goal.returns-then-not-goes_on-clause-net_still
returns-then-not-goes_on-clause-net_still g c = λ none. c.in_ok-goes_on.ensures.net_still (done_names_none c.in_ok-goes_on.goes_on) ∙ c.calls.invariant.still

pub calls-preserved : goal.calls-preserved
calls-preserved g c =
    let goes = c.calls.invariant.goes in
    let start = devices (g.N.LiveNet.calls c.args.net.now) (g.O.Sink.written c.args.out.now) in
    let more : c.in_ok-goes_on.goes_on ≡ true = search rules in
    let before = c.calls.invariant.later in
    let cause = c.step.ensures.write_cause.later in
    let new : List ℕ = c.step.new.into in
    let items : List ℕ = c.calls.into.items in
    let place = c.calls.invariant.place in
    let fits : length c.step.new.into ≤ c.calls.into.len = search rules in
    let all : c.calls.into.len ≡ 65536 = search rules in
    record {
      goes = subst (λ (b : Bool). Steps c.args.setup.now (Ok b) start (devices (g.N.LiveNet.calls c.step.new.net) (g.O.Sink.written c.step.new.out)) c.step.new.self) more (c.in_ok-goes_on.ensures.steps start goes);
      place = omega (arith, place, fits, all, length-take c.calls.into.len (new ++ drop (length new) items), length-append new (drop (length new) items), length-drop (length new) items);
      still = c.in_ok-goes_on.ensures.net_still (done_names_none c.in_ok-goes_on.goes_on) ∙ c.calls.invariant.still;
      later = omega arith;
    }

pub returns-clause-ends : goal.returns-clause-ends
returns-clause-ends g c =
    let goes = c.calls.invariant.goes in
    ends_spent c.args.setup.now (devices (g.N.LiveNet.calls c.args.net.now) (g.O.Sink.written c.args.out.now)) (devices (g.N.LiveNet.calls c.calls.net) (g.O.Sink.written c.calls.out)) c.calls.recovering goes.run goes.came goes.stands
