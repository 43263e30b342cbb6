use Rattle.std.proofs.Common.{◌≡◌, ◌≤◌, length}
use Rattle.session_ends.specs.layers.Hearing.{reader_items, says}
use Rattle.watched_venue.proofs.Writing.{Going}
use Rattle.watched_venue.proofs.seat.write_items.Given as goal

abbrev pub invariant-items : goal.invariant-items
invariant-items g l = record {
  going : Going l.client (reader_items l.reader) (says l.items) (g.O.Sink.written l.fn.out) (g.O.Sink.written l.out);
  bytes : l.items.bytes ≡ l.reader.rest;
  later : g.O.Sink.faults l.fn.out ≤ g.O.Sink.faults l.out;
}

abbrev pub decreases-items : goal.decreases-items
decreases-items g l = length (says l.items)
