use Rattle.std.proofs.Common.{◌≡◌, ◌≢◌, ℕ, ◌+◌, ◌-◌, List, arith, sym, ap, ◌∙◌, subst, Some, None, slice_get}
use Rattle.std.specs.FinMap as map
use Rattle.hold_buffer.specs.HoldView.{HoldView}
use Rattle.hold_buffer.specs.layers.Places.{hold_of}
use Rattle.hold_buffer.proofs.Rings.{found_contains}
use Rattle.hold_buffer.proofs.Kept.{front_from_sequence, no_front, front_above, popped_is, kept_popped, popped_held, popped_none}
use Rattle.hold_buffer.proofs.hold.Hold.pop_next.Goals as goal

-- nothing is held
pub returns-in_err-first-clause-answer : goal.returns-in_err-first-clause-answer
returns-in_err-first-clause-answer c =
    let none : slice_get c.self.inside.ring.items 0 ≡ None = no_front (slice_get c.self.inside.ring.items 0) c.in_err-first.ensures in
    subst (λ (h : HoldView). c.from_residual.result ≡ map.get h.held (h.floor + 1)) c.self.view_is
    (c.from_residual.ensures ∙ sym (popped_none c.self.inside.floor c.self.inside.ring c.self.invariant (λ e at. absurd (cc (none, at)))))

-- the first message, which is above the floor
first_at : (c : goal.In_ok-first) → (raw : List ℕ) × (slice_get c.self.inside.ring.items 0 ≡ Some (c.in_ok-first.first, raw))
first_at c = front_from_sequence (slice_get c.self.inside.ring.items 0) c.in_ok-first.first c.in_ok-first.ensures

pub overflow_sub-first : goal.overflow_sub-first
overflow_sub-first c = let found = first_at c in let high = front_above c.self.inside.floor c.self.inside.ring c.self.invariant (c.in_ok-first.first, found.0) found.1 in omega arith

-- it does not follow the floor
pub returns-then-first-self-clause-answer : goal.returns-then-first-self-clause-answer
returns-then-first-self-clause-answer c =
    let found = front_from_sequence (slice_get c.self.inside.ring.items 0) c.in_ok-first.first c.in_ok-first.ensures in
    subst (λ (h : HoldView). None ≡ map.get h.held (h.floor + 1)) c.self.view_is
    (sym (popped_none c.self.inside.floor c.self.inside.ring c.self.invariant (λ e at.
    let one : e ≡ (c.in_ok-first.first, found.0) = cc (found.1, at) in
    subst (λ (p : ℕ × List ℕ). p.0 - 1 ≢ c.self.inside.floor) (sym one) c.if-first-self.true)))

-- it does, and is taken out
taken_at : (c : goal.After-self-1) → slice_get c.self.inside.ring.items 0 ≡ Some (c.in_ok-first.first, c.in_ok-raw.raw)
taken_at c =
    let found = front_from_sequence (slice_get c.self.inside.ring.items 0) c.in_ok-first.first c.in_ok-first.ensures in
    let one : (c.in_ok-raw.field-0-0, c.in_ok-raw.raw) ≡ (c.in_ok-first.first, found.0) = cc (found.1, c.in_ok-raw.ensures.value) in
    sym c.in_ok-raw.ensures.value ∙ ap (λ (k : ℕ). Some (k, c.in_ok-raw.raw)) (ap (λ (p : ℕ × List ℕ). p.0) one)

follows : (c : goal.After-self-1) → c.in_ok-first.first ≡ c.self.inside.floor + 1
follows c = let high = front_above c.self.inside.floor c.self.inside.ring c.self.invariant (c.in_ok-first.first, c.in_ok-raw.raw) (taken_at c) in let next = c.if-first-self.false in omega arith

pub invariant_of-self-2 : goal.invariant_of-self-2
invariant_of-self-2 c = kept_popped c.self.inside.floor c.self.inside.ring c.self.invariant c.pop_front.new.self c.in_ok-first.first c.in_ok-raw.raw c.in_ok-raw.ensures.items (taken_at c) (follows c)

pub returns-clause-answer : goal.returns-clause-answer
returns-clause-answer c =
    subst (λ (h : HoldView). Some c.in_ok-raw.raw ≡ map.get h.held (h.floor + 1)) c.self.view_is
    (sym (popped_held c.self.inside.floor c.self.inside.ring c.self.invariant c.in_ok-first.first c.in_ok-raw.raw (taken_at c) (follows c)))

pub returns-clause-none : goal.returns-clause-none
returns-clause-none c =
    subst (λ (h : HoldView). hold_of c.in_ok-first.first c.pop_front.new.self ≡ record h { floor = h.floor + 1; held = map.remove h.held (h.floor + 1) }) c.self.view_is
    (popped_is c.self.inside.floor c.self.inside.ring c.self.invariant c.pop_front.new.self c.in_ok-first.first c.in_ok-raw.raw c.in_ok-raw.ensures.items (taken_at c) (follows c))

pub returns-clause-kept : goal.returns-clause-kept
returns-clause-kept c = (invariant_of-self-2 c).hold

pub returns-clause-fits : goal.returns-clause-fits
returns-clause-fits c = λ some. c.self.invariant.hold.fits c.in_ok-first.first (found_contains c.self.inside.ring.items 0 c.in_ok-first.first c.self.invariant.rising (c.in_ok-raw.raw, taken_at c))
