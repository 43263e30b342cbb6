use Rattle.std.proofs.Common.{arith, refl}
use Rattle.stream_print.proofs.Flow.{puts_more}
use Rattle.stream_print.proofs.putting.put_all.Goals as goal

pub puts-preserved : goal.puts-preserved
puts-preserved g c = record {
  within = omega (arith, c.in-Wrote.ensures.count);
  written = puts_more _ (g.O.Sink.written c.puts.out) _ c.args.bytes.now _ c.puts.at c.in-Wrote.count c.puts.invariant.written c.in-Wrote.ensures.bytes refl;
  later = omega (arith, c.in-Wrote.ensures.cause.later, c.puts.invariant.later);
}
