use Rattle.std.proofs.Common.{◌≤◌, ◌-◌, length}
use Rattle.stream_print.proofs.Packeting.{Passing}
use Rattle.stream_print.proofs.packets.print_packets.Given as goal

abbrev pub invariant-packet : goal.invariant-packet
invariant-packet g l = record {
  passing : Passing l.order l.port l.fn.printer l.printer l.fn.counts l.counts l.bytes l.at (g.O.Sink.written l.fn.out) (g.O.Sink.written l.out);
  later : g.O.Sink.faults l.fn.out ≤ g.O.Sink.faults l.out;
}

abbrev pub decreases-packet : goal.decreases-packet
decreases-packet g l = length l.bytes - l.at
