use Rattle.std.proofs.Common.{◌++◌, length, ap, arith}
use Rattle.feed_lines.specs.Show.{message_line, message_lines}
use Rattle.stream_print.specs.Page.{Page}
use Rattle.stream_print.specs.Putting.{PutsSome}
use Rattle.pitch_model.proofs.Results.{on_err}
use Rattle.stream_print.proofs.Printing.{prints_line}
use Rattle.stream_print.proofs.Showing.{shown_more, shown_all, shown_fails, within_next}
use Rattle.stream_print.proofs.shown.print_messages.Goals as goal

pub returns-in_err-make_place-clause-err : goal.returns-in_err-make_place-clause-err
returns-in_err-make_place-clause-err g c =
    on_err (PutsSome (g.O.Sink.written c.args.out.now) (g.O.Sink.written c.make_place.new.out) (c.args.page.now.text ++ message_lines c.args.first c.args.raws)) _
    (shown_fails (g.O.Sink.written c.args.out.now) c.args.page.now.text (g.O.Sink.written c.messages.out) c.messages.page.text (g.O.Sink.written c.make_place.new.out) c.args.first c.messages.sequence
    c.args.raws c.messages.raws c.messages.invariant.shown c.in_err-make_place.ensures.err)

pub messages-preserved : goal.messages-preserved
messages-preserved g c =
    let later = c.messages.invariant.later in
    let cause = c.make_place.ensures.cause.later in
    let line = prints_line (g.O.Sink.written c.messages.out) (g.O.Sink.written c.make_place.new.out) c.messages.page.text c.make_place.new.self.text c.add_message.new.self.text
    (message_line c.messages.sequence c.in-Some.raw.now) c.in_ok-make_place.ensures.ok (ap (λ (p : Page). p.text) c.add_message.ensures) in
    record {
      shown = shown_more (g.O.Sink.written c.args.out.now) c.args.page.now.text (g.O.Sink.written c.messages.out) c.messages.page.text (g.O.Sink.written c.make_place.new.out) c.add_message.new.self.text
          c.args.first c.messages.sequence c.next_after-sequence.result c.args.raws c.messages.raws c.next_raw.new.self c.in-Some.raw.now c.messages.invariant.shown c.in-Some.ensures.0 c.next_after-sequence.ensures line;
      within = within_next c.messages.sequence c.next_after-sequence.result (length c.messages.raws) (length c.next_raw.new.self) c.messages.invariant.within (ap length c.in-Some.ensures.0) c.next_after-sequence.ensures;
      later = omega arith;
    }

pub returns-clause-printed : goal.returns-clause-printed
returns-clause-printed g c =
    shown_all (g.O.Sink.written c.args.out.now) c.args.page.now.text (g.O.Sink.written c.messages.out) c.messages.page.text c.args.first c.messages.sequence c.args.raws c.messages.raws c.messages.invariant.shown c.in_default.ensures.0
