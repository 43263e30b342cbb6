use Rattle.std.proofs.Common.{◌≤◌, take}
use Rattle.std.specs.List.{flat_map}
use Rattle.feed_lines.specs.BookText.{status_line}
use Rattle.stream_print.specs.Page.{Prints}
use Rattle.stream_print.proofs.books.print_statuses.Given as goal

abbrev pub invariant-lines : goal.invariant-lines
invariant-lines g l = record {
  printed : Prints (g.O.Sink.written l.fn.out) l.fn.page.text (g.O.Sink.written l.out) l.page.text (flat_map status_line (take l.state-index l.states));
  later : g.O.Sink.faults l.fn.out ≤ g.O.Sink.faults l.out;
}
