use Rattle.std.proofs.Common.{◌≤◌}
use Rattle.stream_print.specs.Page.{Prints}
use Rattle.venue_units.specs.Units.{OfUnits}
use Rattle.live_venue.specs.Report.{reported_below}
use Rattle.live_venue.proofs.report.print_all.Given as goal

abbrev pub invariant-units : goal.invariant-units
invariant-units g l = record {
  printed : OfUnits l.units (λ s came. Prints (g.O.Sink.written l.fn.out) l.fn.page.text (g.O.Sink.written l.out) l.page.text (reported_below l.number s came));
  later : g.O.Sink.faults l.fn.out ≤ g.O.Sink.faults l.out;
}
