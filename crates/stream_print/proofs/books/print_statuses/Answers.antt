use Rattle.std.proofs.Common.{rules, ◌++◌, length, refl, ap, arith}
use Rattle.std.specs.List.{flat_map}
use Rattle.std.proofs.lemmas.Option.{slice_get_read}
use Rattle.feed_lines.specs.BookText.{status_line}
use Rattle.pitch_model.proofs.Results.{on_err}
use Rattle.stream_print.specs.Page.{Page}
use Rattle.stream_print.specs.Putting.{PutsSome}
use Rattle.stream_print.proofs.Printing.{prints_line, puts_longer, items_more, items_fail}
use Rattle.stream_print.proofs.books.print_statuses.Goals as goal

pub returns-in_err-make_place-clause-err : goal.returns-in_err-make_place-clause-err
returns-in_err-make_place-clause-err g c =
    let at = slice_get_read c.args.states.now (length c.args.states.now) c.lines.state-index c.state-item.result refl (search rules) c.state-item.is in
    on_err (PutsSome (g.O.Sink.written c.args.out.now) (g.O.Sink.written c.make_place.new.out) (c.args.page.now.text ++ flat_map status_line c.args.states.now)) _
    (items_fail status_line c.args.states.now c.lines.state-index c.state-item.result at
    (g.O.Sink.written c.args.out.now) (g.O.Sink.written c.lines.out) (g.O.Sink.written c.make_place.new.out) c.args.page.now.text c.lines.page.text c.lines.invariant.printed
    (puts_longer (g.O.Sink.written c.lines.out) (g.O.Sink.written c.make_place.new.out) c.lines.page.text (status_line c.state-item.result) c.in_err-make_place.ensures.err))

pub lines-preserved : goal.lines-preserved
lines-preserved g c =
    let later = c.lines.invariant.later in
    let cause = c.make_place.ensures.cause.later in
    let at = slice_get_read c.args.states.now (length c.args.states.now) c.lines.state-index c.state-item.result refl (search rules) c.state-item.is in
    record {
      printed = items_more status_line c.args.states.now c.lines.state-index c.state-item.result at
          (g.O.Sink.written c.args.out.now) (g.O.Sink.written c.lines.out) (g.O.Sink.written c.make_place.new.out) c.args.page.now.text c.lines.page.text c.add_status.new.self.text c.lines.invariant.printed
          (prints_line (g.O.Sink.written c.lines.out) (g.O.Sink.written c.make_place.new.out) c.lines.page.text c.make_place.new.self.text c.add_status.new.self.text
          (status_line c.state-item.result) c.in_ok-make_place.ensures.ok (ap (λ (p : Page). p.text) c.add_status.ensures));
      later = omega arith;
    }
