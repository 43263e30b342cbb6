use Rattle.std.proofs.Common.{subst, Err}
use Rattle.live_venue.specs.Standing.{EndsWith}
use Rattle.live_venue.specs.declared.error.ServeError.{ServeError}
use Rattle.live_venue.proofs.Reporting.{report_same, reports_faulty, unwritten_faulty}
use Rattle.live_venue.proofs.report.report_error.Goals as goal

pub returns-in_err-write_after-in-Input-clause-ends : goal.returns-in_err-write_after-in-Input-clause-ends
returns-in_err-write_after-in-Input-clause-ends g c = λ s calls calls' ended.
    let u = c.args.units.now in
    let w = g.O.Sink.written c.args.out.now in
    let w' = g.O.Sink.written c.write_after.new.out in
    report_same s c.from_residual.result _ calls calls' w w' c.from_residual.ensures
    (unwritten_faulty s calls calls' w w' u c.in-Input.fault (subst (λ (e : ServeError). EndsWith s (Err e) calls calls' u) c.in-Input.is ended)
    c.in_err-write_after-in-Input.ensures.err _ c.in_err-write_after-in-Input.ensures.why)

pub returns-in_ok-write_after-in-Input-clause-ends : goal.returns-in_ok-write_after-in-Input-clause-ends
returns-in_ok-write_after-in-Input-clause-ends g c = λ s calls calls' ended.
    let u = c.args.units.now in
    reports_faulty s calls calls' (g.O.Sink.written c.args.out.now) (g.O.Sink.written c.write_after.new.out) u c.in-Input.fault (subst (λ (e : ServeError). EndsWith s (Err e) calls calls' u) c.in-Input.is ended)
    c.in_ok-write_after-in-Input.ensures.ok
