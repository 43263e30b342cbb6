use Rattle.std.proofs.Common.{◌≡◌, ◌≢◌, ℕ, ◌+◌, ◌-◌, ◌<◌, List, arith, sym, ap, ◌∙◌, subst, Some, None, slice_get}
use Rattle.std.specs.Option.{option_copied}
use Rattle.std.specs.FinMap as map
use Rattle.hold_buffer.specs.HoldView.{HoldView}
use Rattle.hold_buffer.proofs.Rings.{found_contains}
use Rattle.hold_buffer.proofs.Kept.{front_above, popped_held, popped_none}
use Rattle.hold_buffer.proofs.hold.Hold.next.Goals as goal

-- nothing is held
pub returns-in_err-sequence-clause-answer : goal.returns-in_err-sequence-clause-answer
returns-in_err-sequence-clause-answer c =
    let none : slice_get c.self.inside.ring.items 0 ≡ None = sym c.in_err-sequence.ensures in
    subst (λ (h : HoldView). option_copied c.from_residual.result ≡ map.get h.held (h.floor + 1)) c.self.view_is
    (ap option_copied c.from_residual.ensures ∙ sym (popped_none c.self.inside.floor c.self.inside.ring c.self.invariant (λ e at. absurd (cc (none, at)))))

pub overflow_sub-sequence : goal.overflow_sub-sequence
overflow_sub-sequence c = let high = front_above c.self.inside.floor c.self.inside.ring c.self.invariant (c.in_ok-sequence.sequence, c.in_ok-sequence.raw.now) (sym c.in_ok-sequence.ensures) in omega arith

-- the first message does not follow the floor
pub returns-then-sequence-self-clause-answer : goal.returns-then-sequence-self-clause-answer
returns-then-sequence-self-clause-answer c =
    subst (λ (h : HoldView). None ≡ map.get h.held (h.floor + 1)) c.self.view_is
    (sym (popped_none c.self.inside.floor c.self.inside.ring c.self.invariant (λ e at.
    let one : e ≡ (c.in_ok-sequence.sequence, c.in_ok-sequence.raw.now) = cc (sym c.in_ok-sequence.ensures, at) in
    subst (λ (p : ℕ × List ℕ). p.0 - 1 ≢ c.self.inside.floor) (sym one) c.if-sequence-self.true)))

-- it does
pub returns-clause-answer : goal.returns-clause-answer
returns-clause-answer c =
    let message : ℕ × List ℕ = (c.in_ok-sequence.sequence, c.in_ok-sequence.raw.now) in
    let at = sym c.in_ok-sequence.ensures in
    let high = front_above c.self.inside.floor c.self.inside.ring c.self.invariant message at in
    let follows : message.0 ≡ c.self.inside.floor + 1 = let next = c.if-sequence-self.false in omega arith in
    subst (λ (h : HoldView). Some message.1 ≡ map.get h.held (h.floor + 1)) c.self.view_is
    (sym (popped_held c.self.inside.floor c.self.inside.ring c.self.invariant message.0 message.1 at follows))

pub returns-clause-fits : goal.returns-clause-fits
returns-clause-fits c = λ some.
    let message : ℕ × List ℕ = (c.in_ok-sequence.sequence, c.in_ok-sequence.raw.now) in
    let at = sym c.in_ok-sequence.ensures in
    let high = front_above c.self.inside.floor c.self.inside.ring c.self.invariant message at in
    let next = c.if-sequence-self.false in
    let fits = c.self.invariant.hold.fits message.0 (found_contains c.self.inside.ring.items 0 message.0 c.self.invariant.rising (message.1, at)) in
    subst (λ (h : HoldView). h.floor < 4294967294) c.self.view_is (omega arith)
