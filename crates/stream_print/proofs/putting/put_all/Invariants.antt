use Rattle.std.proofs.Common.{◌≤◌, ◌-◌, length, take}
use Rattle.pitch_io.specs.Putting.{Grows}
use Rattle.stream_print.proofs.putting.put_all.Given as goal

abbrev pub invariant-puts : goal.invariant-puts
invariant-puts g l = record {
  within : l.at ≤ length l.bytes;
  written : Grows (g.O.Sink.written l.initial.out) (g.O.Sink.written l.out) (take l.at l.bytes);
  later : g.O.Sink.faults l.initial.out ≤ g.O.Sink.faults l.out;
}

abbrev pub decreases-puts : goal.decreases-puts
decreases-puts g l = length l.bytes - l.at
