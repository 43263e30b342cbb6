use Rattle.std.proofs.Common.{sym, subst}
use Rattle.venue_units.specs.declared.units.VenueUnits.{VenueUnits}
use Rattle.live_venue.specs.Standing.{EndsWith}
use Rattle.live_venue.proofs.Ending.{ends_none}
use Rattle.live_venue.proofs.Reporting.{report_same, reports_spent}
use Rattle.live_venue.proofs.service.serve_and_report.Goals as goal

pub returns-in_err-serving-clause-reports : goal.returns-in_err-serving-clause-reports
returns-in_err-serving-clause-reports g c =
    let s = c.args.setup.now in
    let calls = g.N.VenueNet.calls c.args.net.now in
    let w = g.O.Sink.written c.args.report.now in
    report_same s c.from_residual.result _ calls calls w w c.from_residual.ensures (reports_spent s calls calls w (ends_none s calls))

pub returns-clause-reports : goal.returns-clause-reports
returns-clause-reports g c =
    let s = c.args.setup.now in
    let calls = g.N.VenueNet.calls c.args.net.now in
    let calls' = g.N.VenueNet.calls c.run-ended.new.net in
    c.report_end.ensures.ends s calls calls'
    (subst (λ (u : VenueUnits). EndsWith s c.run-ended.result calls calls' u) (sym c.units.ensures) (c.run-ended.ensures.ends calls (c.in_ok-serving.ensures calls)))
