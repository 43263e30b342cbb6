use Rattle.std.proofs.Common.{◌≡◌, ap, ◌∙◌, length, arith}
use Rattle.unit_packets.specs.Cutting.{rest_of}
use Rattle.unit_packets.proofs.Cuts.{rest_short}
use Rattle.unit_packets.proofs.Feeds.{cutting_more}
use Rattle.unit_packets.proofs.reader.cut_blocks.Goals as goal

pub next-preserved : goal.next-preserved
next-preserved c = cutting_more _ _ _ _ _ _ c.in-Some.view c.next.invariant c.in-Some.ensures.blocks c.in-Some.ensures.rest c.in-Ok.ensures.ok

pub overflow_sub-result : goal.overflow_sub-result
overflow_sub-result c =
    let rest : c.rest.result.now ≡ rest_of c.args.bytes.now = c.rest.ensures ∙ c.in_default.ensures.rest ∙ c.next.invariant.walked.rest in
    omega (arith, ap length rest, rest_short c.args.bytes.now)
