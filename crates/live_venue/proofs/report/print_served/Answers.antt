use Rattle.std.proofs.Common.{◌++◌, List, ℕ, subst}
use Rattle.std.proofs.lemmas.Result.{on_err_weaker, on_ok_weaker}
use Rattle.stream_print.specs.Page.{Prints}
use Rattle.stream_print.specs.Putting.{PutsSome}
use Rattle.live_venue.proofs.Reporting.{none_printed, served_is}
use Rattle.live_venue.proofs.report.print_served.Goals as goal

pub returns-in-None-clause-printed : goal.returns-in-None-clause-printed
returns-in-None-clause-printed g c = none_printed c.args.units.now c.args.at c.in-None.ensures (g.O.Sink.written c.args.out.now) c.args.page.now.text

pub returns-in-Some-clause-printed : goal.returns-in-Some-clause-printed
returns-in-Some-clause-printed g c =
    on_ok_weaker c.print_book.result (λ p s came st. subst (Prints (g.O.Sink.written c.args.out.now) c.args.page.now.text (g.O.Sink.written c.print_book.new.out) c.print_book.new.page.text)
    (served_is c.args.units.now c.args.at c.in-Some.end.now c.in-Some.ensures c.unit.result c.count.result c.book.result.now.book c.unit.ensures c.count.ensures c.book.ensures s came st) p) c.print_book.ensures.printed

pub returns-in-Some-clause-err : goal.returns-in-Some-clause-err
returns-in-Some-clause-err g c =
    on_err_weaker c.print_book.result (λ p s came st. subst (λ (t : List ℕ). PutsSome (g.O.Sink.written c.args.out.now) (g.O.Sink.written c.print_book.new.out) (c.args.page.now.text ++ t))
    (served_is c.args.units.now c.args.at c.in-Some.end.now c.in-Some.ensures c.unit.result c.count.result c.book.result.now.book c.unit.ensures c.count.ensures c.book.ensures s came st) p) c.print_book.ensures.err
