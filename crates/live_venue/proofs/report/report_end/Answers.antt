use Rattle.std.proofs.Common.{subst, Result}
use Rattle.live_venue.specs.Standing.{EndsWith}
use Rattle.live_venue.specs.declared.error.ServeError.{ServeError}
use Rattle.live_venue.proofs.Reporting.{reports_over}
use Rattle.live_venue.proofs.report.report_end.Goals as goal

pub returns-in-Ok-clause-ends : goal.returns-in-Ok-clause-ends
returns-in-Ok-clause-ends g c = λ s calls calls' ended.
    let u = c.args.units.now in
    reports_over s calls calls' (g.O.Sink.written c.args.out.now) (g.O.Sink.written c.write_after.new.out) u
    (subst (λ (r : Result (Unit {0}) ServeError). EndsWith s r calls calls' u) c.in-Ok.is ended) c.write_after.result c.write_after.ensures.ok c.write_after.ensures.err c.write_after.ensures.why

pub returns-in-Err-clause-ends : goal.returns-in-Err-clause-ends
returns-in-Err-clause-ends g c = λ s calls calls' ended.
    c.report_error.ensures.ends s calls calls' (subst (λ (r : Result (Unit {0}) ServeError). EndsWith s r calls calls' c.args.units.now) c.in-Err.is ended)
