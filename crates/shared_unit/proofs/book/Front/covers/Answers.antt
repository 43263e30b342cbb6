use Rattle.std.proofs.Common.{◌≤◌, ◌<◌, ap, subst, arith, length, List}
use mathlib.Core.List.{IsPrefix}
use Rattle.shared_unit.specs.layers.Moments.{Moment, history_in}
use Rattle.shared_unit.proofs.Fronts.{prefix_shorter}
use Rattle.shared_unit.proofs.Steps.{history_prefix}
use Rattle.shared_unit.proofs.book.Front.covers.Goals as goal

pub returns-then-self-other : goal.returns-then-self-other
returns-then-self-other g c =
    let both = c.learn.new.self.log in
    let this : IsPrefix c.self.inside.seen.log both = subst (λ (l : List Moment). IsPrefix l both) (ap (λ s. s.log) c.again-both.ensures) c.learn.ensures.2 in
    let less : length (history_in c.self.inside.seen.log) < length (history_in c.other.inside.seen.log) = omega (arith, c.self.invariant.0, c.other.invariant.0, c.if-self-other.true) in
    let begins : IsPrefix (history_in c.self.inside.seen.log) (history_in c.other.inside.seen.log) =
    prefix_shorter (history_in c.self.inside.seen.log) (history_in c.other.inside.seen.log) (history_in both) (history_prefix _ _ this) (history_prefix _ _ c.learn.ensures.3) (omega (arith, less)) in
    rw (← c.self.view_is, ← c.other.view_is) (begins, less)

pub returns : goal.returns
returns g c =
    let both = c.learn.new.self.log in
    let this : IsPrefix c.self.inside.seen.log both = subst (λ (l : List Moment). IsPrefix l both) (ap (λ s. s.log) c.again-both.ensures) c.learn.ensures.2 in
    let less : length (history_in c.other.inside.seen.log) ≤ length (history_in c.self.inside.seen.log) = omega (arith, c.self.invariant.0, c.other.invariant.0, c.if-self-other.false) in
    rw (← c.self.view_is, ← c.other.view_is) (prefix_shorter (history_in c.other.inside.seen.log) (history_in c.self.inside.seen.log) (history_in both) (history_prefix _ _ c.learn.ensures.3) (history_prefix _ _ this) less)
