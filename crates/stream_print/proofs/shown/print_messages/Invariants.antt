use Rattle.std.proofs.Common.{◌≤◌, length}
use Rattle.unit_packets.specs.Blocks.{StaysWithin}
use Rattle.stream_print.proofs.Showing.{Shown}
use Rattle.stream_print.proofs.shown.print_messages.Given as goal

abbrev pub invariant-messages : goal.invariant-messages
invariant-messages g l = record {
  shown : Shown (g.O.Sink.written l.fn.out) l.fn.page.text (g.O.Sink.written l.out) l.page.text l.fn.first l.fn.raws l.sequence l.raws;
  within : StaysWithin l.sequence (length l.raws);
  later : g.O.Sink.faults l.fn.out ≤ g.O.Sink.faults l.out;
}

abbrev pub decreases-messages : goal.decreases-messages
decreases-messages g l = length l.raws
