use Rattle.std.proofs.Common.{sym, ◌∙◌, ◌<◌, ◌-◌, List, ap, arith, length}
use Rattle.pitch_model.specs.Advertising.{Operation}
use Rattle.shared_unit.specs.layers.Moments.{history_in}
use Rattle.shared_unit.proofs.Fronts.{prefix_length}
use Rattle.shared_unit.proofs.Steps.{history_prefix, publishes_moves}
use Rattle.shared_unit.proofs.book.Eye.publish.Goals as goal

pub compare_exchange-requires : goal.compare_exchange-requires
compare_exchange-requires g c =
    let h = c.args.book.now.published_is in
    let offer = c.plain-offer.ensures in
    let pen = c.no_pen-pen.ensures in
    let both = c.learn.new.self.log in
    let count = c.front.inside.count in
    let book = c.learn.ensures.0 ∙ c.self.invariant in
    let longer = prefix_length _ _ (history_prefix c.front.inside.seen.log both c.learn.ensures.3) in
    let less : count - 1 < length (history_in both) = omega (arith, c.requires.some, ap (λ (l : List Operation). length l) c.front.view_is, c.front.invariant.0, longer) in (
      ap (λ w. w.tracked) h,
      book ∙ sym (ap (λ w. w.book) h),
      pen.0 ∙ (book ∙ sym (ap (λ w. w.book) h)),
      offer.0,
      rw (ap (λ w. w.key) h, pen.1, offer.3) (publishes_moves _ _ both (count - 1) less),
    )
