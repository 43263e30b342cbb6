use Rattle.std.proofs.Common.{Bool, not, sym, ap, ◌∙◌}
use Rattle.live_recovery.proofs.Named.{none_has, some_have}
use Rattle.live_recovery.proofs.ended.have_ended.Goals as goal

pub returns-then-not-is_empty : goal.returns-then-not-is_empty
returns-then-not-is_empty c = λ now s start came st.
    some_have s came c.args.named.now c.all_ended.result (sym c.is_empty.ensures ∙ c.if-not-is_empty.true) (c.all_ended.ensures now s start came st)

pub returns-else-not-is_empty : goal.returns-else-not-is_empty
returns-else-not-is_empty c = λ now s start came st. ap (λ (b : Bool). not b) c.if-not-is_empty.false ∙ none_has s came c.args.named.now (sym c.is_empty.ensures ∙ c.if-not-is_empty.false)
