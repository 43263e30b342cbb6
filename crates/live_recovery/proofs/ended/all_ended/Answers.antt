use Rattle.std.proofs.Common.{arith}
use Rattle.live_recovery.proofs.Named.{all_have, one_has_not, one_more}
use Rattle.live_recovery.proofs.ended.all_ended.Goals as goal

pub returns-then-not-has_ended : goal.returns-then-not-has_ended
returns-then-not-has_ended c = λ now s start came st.
    one_has_not s came c.args.named.now c.named.unit-index c.named-test.true c.has_ended.result (c.has_ended.ensures now s start came st) c.if-not-has_ended.true

pub named-preserved : goal.named-preserved
named-preserved c = λ now s start came st.
    one_more s came c.args.named.now c.named.unit-index c.named-test.true c.has_ended.result (c.has_ended.ensures now s start came st) c.if-not-has_ended.false (c.named.invariant now s start came st)

pub returns : goal.returns
returns c = λ now s start came st.
    let end = c.named-test.false in
    all_have s came c.args.named.now c.named.unit-index (omega (arith, end)) (c.named.invariant now s start came st)
