use Rattle.std.proofs.Common.{◌≤◌, length}
use Rattle.live_units.proofs.Hearing.{HeardTo}
use Rattle.live_units.proofs.units.LiveUnits.hear_datagram.Given as goal

abbrev pub invariant-next : goal.invariant-next
invariant-next g l = record {
  heard : HeardTo l.fn.self l.self (g.O.Sink.written l.fn.out) (g.O.Sink.written l.out) l.bytes l.blocks l.heard l.others;
  later : g.O.Sink.faults l.fn.out ≤ g.O.Sink.faults l.out;
}

abbrev pub decreases-next : goal.decreases-next
decreases-next g l = length l.blocks
