use Rattle.std.proofs.Common.{sym, ◌∙◌, ap}
use Rattle.shared_unit.proofs.Steps.{looks_moves}
use Rattle.std.proofs.Common.{subst}
use mathlib.Core.List.{IsPrefix}
use Rattle.shared_unit.proofs.Rights.{begins, may_still}
use Rattle.shared_unit.proofs.book.Right.covers.Goals as goal

pub compare_exchange-requires : goal.compare_exchange-requires
compare_exchange-requires g c =
    let h = c.args.book.now.head_is in
    let offer = c.plain-offer.ensures in
    let book = c.learn.ensures.0 ∙ (ap (λ s. s.book) c.again-both.ensures ∙ c.self.invariant.1) in (
      ap (λ w. w.tracked) h,
      book ∙ sym (ap (λ w. w.book) h),
      c.self.invariant.2 ∙ sym (ap (λ w. w.book) h),
      offer.0,
      rw (ap (λ w. w.key) h, offer.3) (looks_moves _ _ c.learn.new.self.log c.self.inside.pen.nib),
    )

pub invariant_of-self : goal.invariant_of-self
invariant_of-self g c = (
  c.self.invariant.0,
  c.self.invariant.1,
  c.compare_exchange.ensures.5 ∙ c.self.invariant.2,
  may_still _ _ _ _ _ c.compare_exchange.ensures.7.0 c.self.invariant.3,
)

pub returns-clause-begins : goal.returns-clause-begins
returns-clause-begins g c =
    let both = c.learn.new.self.log in
    let this = subst (λ l. IsPrefix l both) (ap (λ s. s.log) c.again-both.ensures) c.learn.ensures.2 in
    rw (← c.self.view_is, ← c.other.view_is)
    (begins c.self.inside.seen.log c.other.inside.seen.log both c.compare_exchange.new.seen.log c.self.inside.pen.nib this c.learn.ensures.3 c.compare_exchange.ensures.6 c.self.invariant.3.has c.compare_exchange.ensures.7.1)
