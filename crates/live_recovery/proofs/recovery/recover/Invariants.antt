use Rattle.std.proofs.Common.{◌≡◌, ◌≤◌, length}
use Rattle.live_recovery.specs.Standing.{GoesOn, devices}
use Rattle.live_recovery.proofs.recovery.recover.Given as goal

abbrev pub invariant-calls : goal.invariant-calls
invariant-calls g l = record {
  goes : GoesOn l.setup (devices (g.N.LiveNet.calls l.fn.net) (g.O.Sink.written l.fn.out)) (devices (g.N.LiveNet.calls l.net) (g.O.Sink.written l.out)) l.recovering;
  place : length l.into.items ≡ 65536;
  still : g.N.LiveNet.faults l.net ≡ g.N.LiveNet.faults l.fn.net;
  later : g.O.Sink.faults l.fn.out ≤ g.O.Sink.faults l.out;
}
