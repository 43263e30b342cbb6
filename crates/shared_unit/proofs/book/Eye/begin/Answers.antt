use Rattle.std.proofs.Common.{sym, ◌∙◌, ap}
use Rattle.shared_unit.proofs.Steps.{begins_moves}
use Rattle.shared_unit.proofs.book.Eye.begin.Goals as goal

pub load-requires : goal.load-requires
load-requires g c =
    let h = c.args.book.now.published_is in
    let offer = c.plain-offer.ensures in (
      ap (λ w. w.tracked) h,
      c.self.invariant ∙ sym (ap (λ w. w.book) h),
      offer.0,
      rw (ap (λ w. w.key) h, offer.1, offer.3) (begins_moves _ _ c.self.inside.seen.log c.args.server),
    )
