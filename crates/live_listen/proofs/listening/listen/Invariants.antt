use Rattle.std.proofs.Common.{◌≡◌, ◌≤◌, length}
use Rattle.live_listen.specs.Standing.{GoesOn, devices}
use Rattle.live_listen.proofs.listening.listen.Given as goal

abbrev pub invariant-calls : goal.invariant-calls
invariant-calls g l = record {
  goes : GoesOn l.setup (devices (g.N.LineNet.calls l.fn.net) (g.O.Sink.written l.fn.out)) (devices (g.N.LineNet.calls l.net) (g.O.Sink.written l.out)) l.listener;
  place : length l.into.items ≡ 65536;
  still : g.N.LineNet.faults l.net ≡ g.N.LineNet.faults l.fn.net;
  later : g.O.Sink.faults l.fn.out ≤ g.O.Sink.faults l.out;
}
