use Rattle.std.proofs.Common.{sym, ◌∙◌, ap}
use Rattle.shared_unit.proofs.Steps.{cell_moves}
use Rattle.logbook.specs.Pages.{left_with}
use Rattle.shared_unit.proofs.book.Book.cell.Goals as goal

pub compare_exchange-requires : goal.compare_exchange-requires
compare_exchange-requires g c =
    let h = c.args.self.now.head_is in
    let offer = c.plain-offer.ensures in
    let pen = c.no_pen-pen.ensures in
    let again = c.again-seen.ensures in
    let book = ap (λ s. s.book) again ∙ c.requires in (
      ap (λ w. w.tracked) h,
      book ∙ sym (ap (λ w. w.book) h),
      pen.0 ∙ (book ∙ sym (ap (λ w. w.book) h)),
      offer.0,
      rw (ap (λ w. w.key) h, pen.1, offer.3, ap (λ s. s.log) again) (cell_moves _ _ c.args.seen.now.log),
    )

pub returns : goal.returns
returns g c =
    let made = c.tracked-word.ensures in
    let step = c.compare_exchange.ensures in (
      made.1 ∙ (step.5 ∙ (c.no_pen-pen.ensures.0 ∙ (ap (λ s. s.book) c.again-seen.ensures ∙ c.requires))),
      ap (λ n. n.right) made.2 ∙ ap left_with step.7,
    )
