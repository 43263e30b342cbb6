use Rattle.std.proofs.Common.{◌≤◌, List}
use Rattle.stream_print.specs.Page.{PrintsSuch}
use Rattle.unit_clients.specs.Tables.{AtEach}
use Rattle.live_units.specs.Coming.{LiveSetup, UnitCame, AreBooksBelow}
use Rattle.live_units.specs.Places.{IsUnitAt}
use Rattle.live_units.proofs.units.print_books.Given as goal

abbrev pub invariant-units : goal.invariant-units
invariant-units g l = record {
  printed : (s : LiveSetup) (came : List UnitCame) → AtEach (IsUnitAt s came) l.places → PrintsSuch (AreBooksBelow l.unit s came) (g.O.Sink.written l.fn.out) l.fn.page.text (g.O.Sink.written l.out) l.page.text;
  later : g.O.Sink.faults l.fn.out ≤ g.O.Sink.faults l.out;
}
