use Rattle.std.proofs.Common.{sym, ◌∙◌, ap}
use Rattle.shared_unit.proofs.Steps.{first_moves}
use Rattle.std.proofs.Common.{length}
use Rattle.shared_unit.proofs.Rights.{taken, may_first}
use Rattle.shared_unit.proofs.book.Right.first.Goals as goal

pub compare_exchange-found-requires : goal.compare_exchange-found-requires
compare_exchange-found-requires g c =
    let h = c.args.book.now.head_is in
    let offer = c.plain-offer.ensures in
    let pen = c.no_pen-pen.ensures in
    let again = c.again-seen.ensures in
    let book = ap (λ s. s.book) again ∙ c.front.invariant.1 in (
      ap (λ w. w.tracked) h,
      book ∙ sym (ap (λ w. w.book) h),
      pen.0 ∙ (book ∙ sym (ap (λ w. w.book) h)),
      offer.0,
      rw (ap (λ w. w.key) h, pen.1, offer.3, ap (λ s. s.log) again) (first_moves _ _ c.front.inside.seen.log),
    )

pub invariant_of-result : goal.invariant_of-result
invariant_of-result g c =
    let made = c.tracked-word.ensures in
    let step = c.compare_exchange-found.ensures in
    let first = taken c.compare_exchange-found.result _ c.if-found-ne0.false step.7 in
    let book = ap (λ s. s.book) c.again-seen.ensures ∙ c.front.invariant.1 in (
      ap length (sym first.0),
      step.0 ∙ book,
      made.1 ∙ (step.5 ∙ (c.no_pen-pen.ensures.0 ∙ book)),
      may_first _ _ c.compare_exchange-found.new.seen.log c.compare_exchange-found.new.pen.nib c.tracked-word.new.pen.nib first.0 first.1 first.2 made.2,
    )
