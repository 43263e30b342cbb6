use Rattle.std.proofs.Common.{◌≤◌, take}
use Rattle.std.specs.List.{flat_map}
use Rattle.best_quotes.specs.QuotesText.{quote_line}
use Rattle.stream_print.specs.Page.{Prints}
use Rattle.stream_print.proofs.listed.print_quotes.Given as goal

abbrev pub invariant-lines : goal.invariant-lines
invariant-lines g l = record {
  printed : Prints (g.O.Sink.written l.fn.out) l.fn.page.text (g.O.Sink.written l.out) l.page.text (flat_map (quote_line l.unit) (take l.quote-index l.quotes));
  later : g.O.Sink.faults l.fn.out ≤ g.O.Sink.faults l.out;
}
