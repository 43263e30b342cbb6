use Rattle.std.proofs.Common.{◌≤◌, length}
use Rattle.stream_print.proofs.Streaming.{Taking}
use Rattle.stream_print.proofs.blocks.print_blocks.Given as goal

abbrev pub invariant-next : goal.invariant-next
invariant-next g l = record {
  taking : Taking l.fn.printer l.printer l.bytes l.blocks (g.O.Sink.written l.fn.out) (g.O.Sink.written l.out);
  later : g.O.Sink.faults l.fn.out ≤ g.O.Sink.faults l.out;
}

abbrev pub decreases-next : goal.decreases-next
decreases-next g l = length l.blocks
