use Rattle.std.proofs.Common.{rules, ◌≤◌, ◌++◌, ℕ, List, take, length, Ok, Err, sym, ap, ◌∙◌, subst, arith, length-append}
use Rattle.std.specs.Io.KnownBytes.{Consumes}
use Rattle.std.proofs.lemmas.List.{length-take-le}
use Rattle.stream_print.specs.declared.stream_form.StreamForm.{StreamForm}
use Rattle.stream_print.specs.layers.Feeding.{StreamFeeds}
use Rattle.stream_print.specs.Inputs.{StreamEnds}
use Rattle.stream_print.specs.Inputs.{stream_limit}
use Rattle.stream_print.specs.Told.{between}
use Rattle.stream_print.specs.declared.failure.StreamFailure.TheVariants.{Read, Write}
use Rattle.stream_print.proofs.Feeding.{consumes_more, consumes_kept}
use Rattle.stream_print.proofs.Taking.{stops_none, stops_kept, stops_more, given_bytes, taken_none, taken_more, writes_none, later_cause, own_form}
use Rattle.stream_print.proofs.Finishing.{ends_same, same_stop}
use Rattle.stream_print.proofs.stream.print_stream.Goals as goal

pub returns-in_err-printer-clause-ends : goal.returns-in_err-printer-clause-ends
returns-in_err-printer-clause-ends g c =
    ends_same c.args.carrier c.args.form stream_limit c.from_residual.result _ (g.I.Source.left c.args.input.now) (g.I.Source.left c.args.input.now) (g.O.Sink.written c.args.out.now) (g.O.Sink.written c.args.out.now) c.from_residual.ensures
    (writes_none c.args.carrier c.args.form (g.I.Source.left c.args.input.now) (g.O.Sink.written c.args.out.now))

pub returns-in_err-piece-clause-ends : goal.returns-in_err-piece-clause-ends
returns-in_err-piece-clause-ends g c =
    ends_same c.args.carrier c.args.form stream_limit c.from_residual-in_err-piece.result _ (g.I.Source.left c.args.input.now) (g.I.Source.left c.args.input.now) (g.O.Sink.written c.args.out.now) (g.O.Sink.written c.args.out.now)
    c.from_residual-in_err-piece.ensures (writes_none c.args.carrier c.args.form (g.I.Source.left c.args.input.now) (g.O.Sink.written c.args.out.now))

pub takes-init : goal.takes-init
takes-init g c = record {
  taken = taken_none c.args.carrier c.args.form c.in_ok-printer.printer c.make-reader.result (g.I.Source.left c.args.input.now) (g.O.Sink.written c.args.out.now)
      c.requires.suits c.in_ok-printer.ensures.form c.in_ok-printer.ensures.known c.in_ok-printer.ensures.page c.make-reader.ensures.read c.make-reader.ensures.empty;
  turns = omega arith;
  place = c.in_ok-piece.ensures;
  read_later = omega arith;
  write_later = omega arith;
}

pub feed-requires-clause-within : goal.feed-requires-clause-within
feed-requires-clause-within g c = omega (arith, c.takes.invariant.taken.size, c.takes.invariant.taken.within)

pub feed-requires-clause-few : goal.feed-requires-clause-few
feed-requires-clause-few g c = omega (arith, c.takes.invariant.taken.size, c.takes.invariant.taken.fed.few)

pub returns-in_err-feed-in-Got-clause-ends : goal.returns-in_err-feed-in-Got-clause-ends
returns-in_err-feed-in-Got-clause-ends g c =
    let t = c.takes.invariant.taken in
    let first = g.I.Source.left c.args.input.now in
    let start = g.O.Sink.written c.args.out.now in
    let piece : List ℕ = take c.in-Got.count c.deref.result.now in
    let fits : length c.take_at_most.new.piece ≤ c.takes.piece.len = search rules in
    let given = given_bytes c.in-Got.count c.takes.piece.len c.take_at_most.new.piece c.takes.piece.items c.deref.result.now c.in-Got.ensures.count.2 fits c.deref.ensures.value in
    let took = subst (Consumes (g.I.Source.left c.takes.input) (g.I.Source.left c.take_at_most.new.input)) (sym given) c.in-Got.ensures.bytes in
    let read = consumes_more first (g.I.Source.left c.takes.input) (g.I.Source.left c.take_at_most.new.input) t.bytes piece t.read took in
    ends_same c.args.carrier c.args.form stream_limit c.from_residual-in_err-feed-in-Got.result c.in_err-feed-in-Got.field-0.0 first (g.I.Source.left c.take_at_most.new.input) start (g.O.Sink.written c.feed.new.out) c.from_residual-in_err-feed-in-Got.ensures
    (subst (λ (n : StreamForm). StreamEnds c.args.carrier n stream_limit (Err c.in_err-feed-in-Got.field-0.0) (between first (g.I.Source.left c.take_at_most.new.input)) (between start (g.O.Sink.written c.feed.new.out))) t.fed.form_is
    (c.in_err-feed-in-Got.ensures.feeds c.args.carrier first (g.I.Source.left c.take_at_most.new.input) start t.bytes t.size
    (own_form c.args.carrier c.args.form start (g.O.Sink.written c.takes.out) c.takes.printer c.takes.reader t.bytes t.fed) read))

pub returns-in_err-feed-in-Got-clause-reads : goal.returns-in_err-feed-in-Got-clause-reads
returns-in_err-feed-in-Got-clause-reads g c =
    let t = c.takes.invariant.taken in
    let size = t.size in
    let within = c.in-Got.ensures.count.1 in
    record {
      taken = t.bytes ++ take c.in-Got.count c.take_at_most.new.piece;
      read = consumes_more (g.I.Source.left c.args.input.now) (g.I.Source.left c.takes.input) (g.I.Source.left c.take_at_most.new.input) t.bytes (take c.in-Got.count c.take_at_most.new.piece) t.read c.in-Got.ensures.bytes;
      within = omega (arith, t.within, size, within, length-append t.bytes (take c.in-Got.count c.take_at_most.new.piece), length-take-le c.in-Got.count c.take_at_most.new.piece c.in-Got.ensures.count.2);
    }

pub returns-in_err-feed-in-Got-clause-read_cause : goal.returns-in_err-feed-in-Got-clause-read_cause
returns-in_err-feed-in-Got-clause-read_cause g c =
    later_cause (g.I.Source.faults c.args.input.now) (g.I.Source.faults c.takes.input) (g.I.Source.faults c.take_at_most.new.input) _ _ c.takes.invariant.read_later c.take_at_most.ensures.cause
    (λ e. absurd (c.in_err-feed-in-Got.ensures.not_read (ap Err (same_stop c.from_residual-in_err-feed-in-Got.result c.in_err-feed-in-Got.field-0.0 Read c.from_residual-in_err-feed-in-Got.ensures e))))

pub returns-in_err-feed-in-Got-clause-write_cause : goal.returns-in_err-feed-in-Got-clause-write_cause
returns-in_err-feed-in-Got-clause-write_cause g c =
    later_cause (g.O.Sink.faults c.args.out.now) (g.O.Sink.faults c.takes.out) (g.O.Sink.faults c.feed.new.out) _ _ c.takes.invariant.write_later c.in_err-feed-in-Got.ensures.cause
    (λ e. ap Err (same_stop c.from_residual-in_err-feed-in-Got.result c.in_err-feed-in-Got.field-0.0 Write c.from_residual-in_err-feed-in-Got.ensures e))

pub overflow_add-fed : goal.overflow_add-fed
overflow_add-fed g c =
    let fed = c.takes.invariant.taken.within in
    let size = c.takes.invariant.taken.size in
    omega (arith, fed, size, c.in-Got.ensures.count.2)

pub returns-in-End-clause-ends : goal.returns-in-End-clause-ends
returns-in-End-clause-ends g c =
    let t = c.takes.invariant.taken in
    let first = g.I.Source.left c.args.input.now in
    let start = g.O.Sink.written c.args.out.now in
    subst (λ (n : StreamForm). StreamEnds c.args.carrier n stream_limit c.finish.result (between first (g.I.Source.left c.take_at_most.new.input)) (between start (g.O.Sink.written c.finish.new.out))) t.fed.form_is
    (c.finish.ensures.finishes c.args.carrier first (g.I.Source.left c.takes.input) (g.I.Source.left c.take_at_most.new.input) start t.bytes t.within
    (own_form c.args.carrier c.args.form start (g.O.Sink.written c.takes.out) c.takes.printer c.takes.reader t.bytes t.fed) t.unended t.read c.in-End.ensures.bytes)

pub returns-in-End-clause-read_cause : goal.returns-in-End-clause-read_cause
returns-in-End-clause-read_cause g c =
    later_cause (g.I.Source.faults c.args.input.now) (g.I.Source.faults c.takes.input) (g.I.Source.faults c.take_at_most.new.input) _ _ c.takes.invariant.read_later c.take_at_most.ensures.cause
    (λ e. absurd (c.finish.ensures.not_read e))

pub returns-in-End-clause-write_cause : goal.returns-in-End-clause-write_cause
returns-in-End-clause-write_cause g c =
    later_cause (g.O.Sink.faults c.args.out.now) (g.O.Sink.faults c.takes.out) (g.O.Sink.faults c.finish.new.out) _ _ c.takes.invariant.write_later c.finish.ensures.cause (λ e. e)

pub returns-in-Failed-clause-ends : goal.returns-in-Failed-clause-ends
returns-in-Failed-clause-ends g c =
    let t = c.takes.invariant.taken in
    record {
      bytes = t.bytes;
      read = consumes_kept (g.I.Source.left c.args.input.now) (g.I.Source.left c.takes.input) (g.I.Source.left c.take_at_most.new.input) t.bytes t.read c.in-Failed.ensures.bytes;
      wrote = t.fed.wrote;
    }

pub returns-in-Failed-clause-read_cause : goal.returns-in-Failed-clause-read_cause
returns-in-Failed-clause-read_cause g c =
    later_cause (g.I.Source.faults c.args.input.now) (g.I.Source.faults c.takes.input) (g.I.Source.faults c.take_at_most.new.input) _ _ c.takes.invariant.read_later c.in-Failed.ensures.cause
    (λ e. tt)

pub takes-preserved : goal.takes-preserved
takes-preserved g c =
    let t = c.takes.invariant.taken in
    let first = g.I.Source.left c.args.input.now in
    let start = g.O.Sink.written c.args.out.now in
    let piece : List ℕ = take c.in-Got.count c.deref.result.now in
    let fits : length c.take_at_most.new.piece ≤ c.takes.piece.len = search rules in
    let given = given_bytes c.in-Got.count c.takes.piece.len c.take_at_most.new.piece c.takes.piece.items c.deref.result.now c.in-Got.ensures.count.2 fits c.deref.ensures.value in
    let took = subst (Consumes (g.I.Source.left c.takes.input) (g.I.Source.left c.take_at_most.new.input)) (sym given) c.in-Got.ensures.bytes in
    let read = consumes_more first (g.I.Source.left c.takes.input) (g.I.Source.left c.take_at_most.new.input) t.bytes piece t.read took in
    let fed = subst (λ (n : StreamForm). StreamFeeds c.args.carrier n stream_limit (Ok tt) (between first (g.I.Source.left c.take_at_most.new.input)) (between start (g.O.Sink.written c.feed.new.out)) c.feed.new.printer c.feed.new.reader (t.bytes ++ piece)) t.fed.form_is
    (c.in_ok-feed-in-Got.ensures.feeds c.args.carrier first (g.I.Source.left c.take_at_most.new.input) start t.bytes t.size
    (own_form c.args.carrier c.args.form start (g.O.Sink.written c.takes.out) c.takes.printer c.takes.reader t.bytes t.fed) read) in
    let some = c.in-Got.ensures.count.0 in
    let turns = c.takes.invariant.turns in
    let read_before = c.takes.invariant.read_later in
    let read_cause = c.take_at_most.ensures.cause.later in
    let write_before = c.takes.invariant.write_later in
    let write_cause = c.feed.ensures.cause.later in
    record {
      taken = taken_more c.args.carrier c.args.form c.takes.printer c.feed.new.printer c.takes.reader c.feed.new.reader c.takes.fed c.in-Got.count
          first (g.I.Source.left c.takes.input) (g.I.Source.left c.take_at_most.new.input) start (g.O.Sink.written c.takes.out) (g.O.Sink.written c.feed.new.out) piece t
          (ap length given ∙ length-take-le c.in-Got.count c.take_at_most.new.piece c.in-Got.ensures.count.2) took fed;
      turns = omega arith;
      place = search rules;
      read_later = omega arith;
      write_later = omega arith;
    }

pub unreachable-requires : goal.unreachable-requires
unreachable-requires g c =
    let within = c.takes.invariant.taken.within in
    let size = c.takes.invariant.taken.size in
    let turns = c.takes.invariant.turns in
    let past : 1073741825 ≤ c.takes.turn = search rules in
    absurd (omega (arith, within, size, turns, past))

pub returns-in_err-printer-clause-stops : goal.returns-in_err-printer-clause-stops
returns-in_err-printer-clause-stops g c = stops_none c.args.carrier (g.I.Source.left c.args.input.now)

pub returns-in_err-piece-clause-stops : goal.returns-in_err-piece-clause-stops
returns-in_err-piece-clause-stops g c = stops_none c.args.carrier (g.I.Source.left c.args.input.now)

pub returns-in_err-feed-in-Got-clause-stops : goal.returns-in_err-feed-in-Got-clause-stops
returns-in_err-feed-in-Got-clause-stops g c =
    let t = c.takes.invariant.taken in
    let place = c.takes.invariant.place in
    let within = c.in-Got.ensures.count.2 in
    let fits : length c.take_at_most.new.piece ≤ c.takes.piece.len = search rules in
    stops_more c.args.carrier t.bytes (take c.in-Got.count c.take_at_most.new.piece) (g.I.Source.left c.args.input.now) (g.I.Source.left c.takes.input) (g.I.Source.left c.take_at_most.new.input) t.read c.in-Got.ensures.bytes t.unended
    (omega (arith, within, fits, place, length-take-le c.in-Got.count c.take_at_most.new.piece c.in-Got.ensures.count.2))

pub returns-in-End-clause-stops : goal.returns-in-End-clause-stops
returns-in-End-clause-stops g c =
    let t = c.takes.invariant.taken in
    stops_kept c.args.carrier t.bytes (g.I.Source.left c.args.input.now) (g.I.Source.left c.takes.input) (g.I.Source.left c.take_at_most.new.input) t.read c.in-End.ensures.bytes.1 t.unended

pub returns-in-Failed-clause-stops : goal.returns-in-Failed-clause-stops
returns-in-Failed-clause-stops g c =
    let t = c.takes.invariant.taken in
    stops_kept c.args.carrier t.bytes (g.I.Source.left c.args.input.now) (g.I.Source.left c.takes.input) (g.I.Source.left c.take_at_most.new.input) t.read c.in-Failed.ensures.bytes t.unended
