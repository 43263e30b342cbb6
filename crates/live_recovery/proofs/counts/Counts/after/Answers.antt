use Rattle.std.proofs.Common.{ℕ, ◌+◌, ap, ◌∙◌}
use Rattle.sending_end.specs.declared.end.Passed.{Passed}
use Rattle.live_recovery.proofs.Counting.{counted_so, one_or_none}
use Rattle.live_recovery.proofs.counts.Counts.after.Goals as goal

pub returns : goal.returns
returns c = λ s is.
    counted_so s c.args.datagram.now c.args.self c.args.passed is c.in_ok-sum.field-0 c.in_ok-sum-2.field-0 c.in_ok-sum-3.field-0 c.in_ok-sum-4.field-0 c.is_faulty.result (c.is_faulty.ensures (ap (λ (p : Passed). p.rest) is))
    c.in_ok-sum.ensures (c.in_ok-sum-2.ensures ∙ ap (λ (n : ℕ). c.args.self.faulty + n) (c.from-faulty.ensures ∙ one_or_none c.is_faulty.result)) c.in_ok-sum-3.ensures c.in_ok-sum-4.ensures
