use Rattle.std.proofs.Common.{eqb, sym, arith, length, eq-eqb}
use Rattle.std.proofs.lemmas.List.Sums.{position_or_len_is}
use Rattle.text_lines.proofs.fields.length_before.Goals as goal

pub returns-then-byte-stop-clause-value : goal.returns-then-byte-stop-clause-value
returns-then-byte-stop-clause-value c = sym (position_or_len_is (λ b. eqb b c.args.stop) c.args.bytes.now c.loop-i.i 0 (omega arith) c.loop-i.invariant (λ _. eq-eqb _ _ c.if-byte-stop.true))

pub returns-clause-value : goal.returns-clause-value
returns-clause-value c = sym (position_or_len_is (λ b. eqb b c.args.stop) c.args.bytes.now (length c.args.bytes.now) 0 (omega arith) (λ k h. c.loop-i.invariant k (omega arith)) (λ h. absurd (omega arith)))
