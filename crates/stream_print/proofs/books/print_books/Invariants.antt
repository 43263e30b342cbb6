use Rattle.std.proofs.Common.{◌≤◌}
use Rattle.stream_print.specs.Page.{Prints}
use Rattle.stream_print.specs.layers.Books.{texts_below}
use Rattle.stream_print.proofs.books.print_books.Given as goal

abbrev pub invariant-units : goal.invariant-units
invariant-units g l = record {
  printed : Prints (g.O.Sink.written l.fn.out) l.fn.page.text (g.O.Sink.written l.out) l.page.text (texts_below l.clients l.unit);
  later : g.O.Sink.faults l.fn.out ≤ g.O.Sink.faults l.out;
}
