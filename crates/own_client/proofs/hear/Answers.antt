use Rattle.std.proofs.Common.{◌≡◌, ap, ◌∙◌, length, arith}
use Rattle.unit_packets.specs.Cutting.{rest_of}
use Rattle.unit_packets.proofs.Cuts.{rest_short}
use Rattle.own_client.proofs.Hearing.{heard_more, heard_all}
use Rattle.own_client.proofs.hear.Goals as goal

pub next-preserved : goal.next-preserved
next-preserved c = heard_more _ _ _ _ _ _ c.in-Some.block c.next.invariant c.in-Some.ensures.blocks c.in-Some.ensures.rest c.in_ok-hear_block.ensures.heard

pub overflow_sub-result : goal.overflow_sub-result
overflow_sub-result c =
    let rest : c.rest-in_default-read_block.result.now ≡ rest_of c.args.bytes.now = c.rest-in_default-read_block.ensures ∙ c.in_default.ensures.rest ∙ c.next.invariant.walked.rest in
    omega (arith, ap length rest, rest_short c.args.bytes.now)

pub returns-in_default-read_block-clause-heard : goal.returns-in_default-read_block-clause-heard
returns-in_default-read_block-clause-heard c = heard_all _ _ _ _ c.next.invariant c.in_default.ensures.blocks.0
