use Rattle.std.proofs.Common.{◌≤◌, length}
use Rattle.live_listen.proofs.Hearing.{Hearing}
use Rattle.live_listen.proofs.listener.Listener.hear_blocks.Given as goal

abbrev pub invariant-next : goal.invariant-next
invariant-next g l = record {
  hearing : Hearing l.setup.units l.fn.self l.self l.datagram l.blocks (g.O.Sink.written l.fn.out) (g.O.Sink.written l.out);
  later : g.O.Sink.faults l.fn.out ≤ g.O.Sink.faults l.out;
}

abbrev pub decreases-next : goal.decreases-next
decreases-next g l = length l.blocks
