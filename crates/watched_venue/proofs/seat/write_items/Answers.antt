use Rattle.std.proofs.Common.{arith, ◌∙◌}
use Rattle.pitch_model.proofs.Results.{on_err}
use Rattle.session_ends.specs.layers.Hearing.{reader_items, says}
use Rattle.stream_print.specs.Putting.{PutsSome}
use Rattle.watched_venue.specs.layers.Asked.{asked_lines}
use Rattle.watched_venue.proofs.Writing.{going_fail, going_more, going_none}
use Rattle.watched_venue.proofs.seat.write_items.Goals as goal

pub items-init : goal.items-init
items-init g c = record {
  going = going_none c.args.client.now (reader_items c.args.reader.now) (g.O.Sink.written c.args.out.now) _ c.of-items.ensures.says;
  bytes = c.of-items.ensures.bytes;
  later = omega arith;
}

pub items-preserved : goal.items-preserved
items-preserved g c =
    let later = c.items.invariant.later in
    let cause = c.write_item.ensures.cause.later in
    record {
      going = going_more c.args.client.now (reader_items c.args.reader.now) (g.O.Sink.written c.args.out.now) (g.O.Sink.written c.items.out) (g.O.Sink.written c.write_item.new.out) (says c.items.items) (says c.next_item.new.self) c.in-Some.item
          c.items.invariant.going c.in-Some.ensures.says c.in_ok-write_item.ensures.ok;
      bytes = c.in-Some.ensures.bytes ∙ c.items.invariant.bytes;
      later = omega arith;
    }

pub returns-in_err-write_item-clause-err : goal.returns-in_err-write_item-clause-err
returns-in_err-write_item-clause-err g c =
    on_err (PutsSome (g.O.Sink.written c.args.out.now) (g.O.Sink.written c.write_item.new.out) (asked_lines c.args.client.now (reader_items c.args.reader.now))) _
    (going_fail c.args.client.now (reader_items c.args.reader.now) (g.O.Sink.written c.args.out.now) (g.O.Sink.written c.items.out) (g.O.Sink.written c.write_item.new.out) (says c.items.items) (says c.next_item.new.self) c.in-Some.item
    c.items.invariant.going c.in-Some.ensures.says c.in_err-write_item.ensures.err)
