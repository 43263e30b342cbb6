use Rattle.std.proofs.Common.{◌-◌, ◌∙◌, arith}
use Rattle.unit_commands.proofs.CutLemmas.{turned, stops_at_feed}
use Rattle.unit_commands.proofs.pieces.length_through.Goals as goal

pub ends-preserved : goal.ends-preserved
ends-preserved c = record {
  within = omega arith;
  same = turned c.args.bytes.now c.ends.end (c.ends.end - 1) (omega arith) (omega arith) c.if-bytes-end-ne10.true ∙ c.ends.invariant.same;
}

pub returns-else-bytes-end-ne10-clause-value : goal.returns-else-bytes-end-ne10-clause-value
returns-else-bytes-end-ne10-clause-value c =
    stops_at_feed c.args.bytes.now c.ends.end (c.ends.end - 1) (omega arith) (omega arith) c.if-bytes-end-ne10.false c.ends.invariant.same
