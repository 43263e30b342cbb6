use Rattle.std.proofs.Common.{◌++◌, arith}
use Rattle.pitch_model.proofs.Results.{on_err}
use Rattle.stream_print.specs.Putting.{PutsSome}
use Rattle.venue_units.specs.Units.{OfUnits}
use Rattle.live_venue.specs.Report.{report_text}
use Rattle.live_venue.proofs.Reporting.{books_fail, books_more, books_start}
use Rattle.live_venue.proofs.report.print_all.Goals as goal

pub units-init : goal.units-init
units-init g c = record {
  printed = λ s came st. books_start s came (g.O.Sink.written c.args.out.now) c.args.page.now.text;
  later = omega arith;
}

pub returns-in_err-print_numbered-clause-err : goal.returns-in_err-print_numbered-clause-err
returns-in_err-print_numbered-clause-err g c =
    on_err (OfUnits c.args.units.now (λ s came. PutsSome (g.O.Sink.written c.args.out.now) (g.O.Sink.written c.print_numbered.new.out) (c.args.page.now.text ++ report_text s came))) _
    (λ s came st. books_fail s came c.units.number (g.O.Sink.written c.args.out.now) (g.O.Sink.written c.units.out) (g.O.Sink.written c.print_numbered.new.out) c.args.page.now.text c.units.page.text
    (c.units.invariant.printed s came st) (omega arith) (c.in_err-print_numbered.ensures.err s came st))

pub units-preserved : goal.units-preserved
units-preserved g c =
    let later = c.units.invariant.later in
    let cause = c.print_numbered.ensures.cause.later in
    record {
      printed = λ s came st. books_more s came c.units.number (g.O.Sink.written c.args.out.now) (g.O.Sink.written c.units.out) (g.O.Sink.written c.print_numbered.new.out) c.args.page.now.text c.units.page.text
          (c.units.invariant.printed s came st) c.print_numbered.new.page.text (c.in_ok-print_numbered.ensures.printed s came st);
      later = omega arith;
    }
