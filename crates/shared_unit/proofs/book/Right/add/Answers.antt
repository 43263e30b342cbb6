use Rattle.std.proofs.Common.{◌≡◌, ◌+◌, sym, ◌∙◌, ap, length, arith}
use Rattle.shared_unit.specs.layers.Histories.{IsLegal, then_done}
use Rattle.shared_unit.specs.layers.Moments.{history_in, rights_in}
use Rattle.shared_unit.specs.layers.Stored.{operation_of}
use Rattle.shared_unit.proofs.Steps.{adds_moves}
use Rattle.std.proofs.Common.{length-append, [], ◌∷◌}
use Rattle.shared_unit.proofs.Rights.{asks, may_next}
use Rattle.shared_unit.proofs.book.Right.add.Goals as goal

pub compare_exchange-requires : goal.compare_exchange-requires
compare_exchange-requires g c =
    let h = c.args.book.now.head_is in
    let offer = c.plain-offer.ensures in
    let log = c.self.inside.seen.log in
    let len : length (rights_in log) ≡ c.self.inside.count + 1 = omega (arith, c.self.invariant.3.one, c.self.invariant.0) in
    let may : IsLegal g.R.FixedRun.fixed g.R.FixedRun.plan (then_done (history_in log) (operation_of c.args.what)) = rw c.self.view_is c.requires.legal in (
      ap (λ w. w.tracked) h,
      c.self.invariant.1 ∙ sym (ap (λ w. w.book) h),
      c.self.invariant.2 ∙ sym (ap (λ w. w.book) h),
      offer.0,
      rw (ap (λ w. w.key) h, offer.1, offer.3) (adds_moves _ _ log (operation_of c.args.what) _ (c.self.inside.count + 1) c.self.inside.pen.nib len c.self.invariant.3.has may),
    )

pub invariant_of-self : goal.invariant_of-self
invariant_of-self g c =
    let step = c.compare_exchange.ensures in
    let log = c.self.inside.seen.log in
    let after = c.compare_exchange.new.seen.log in
    let is = asks (history_in log) (rights_in log) after c.plain-offer.result.ask (operation_of c.args.what) c.cell.result.nib.key c.plain-offer.ensures.1 step.7.0 step.7.1 in
    let count : c.self.inside.count + 1 ≡ length (history_in after) = omega (arith, c.self.invariant.0, ap (λ l. length l) is.0, length-append (history_in log) (operation_of c.args.what ∷ [])) in (
      count,
      step.0 ∙ c.self.invariant.1,
      c.cell.ensures.0,
      may_next _ _ log after c.self.inside.pen.nib c.cell.result.nib (operation_of c.args.what) is.0 is.1 c.cell.ensures.1 step.7.2 c.self.invariant.3,
    )

pub returns-clause-added : goal.returns-clause-added
returns-clause-added g c =
    let log = c.self.inside.seen.log in
    let is = asks (history_in log) (rights_in log) c.compare_exchange.new.seen.log c.plain-offer.result.ask (operation_of c.args.what) c.cell.result.nib.key c.plain-offer.ensures.1 c.compare_exchange.ensures.7.0 c.compare_exchange.ensures.7.1 in
    is.0 ∙ ap (λ h. then_done h (operation_of c.args.what)) c.self.view_is
