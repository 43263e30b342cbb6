use Rattle.std.proofs.Common.{◌≡◌, ℕ, List, drop, sym, subst}
use Rattle.circular_buffer.specs.Buffer.{Buffer, buffer}
use Rattle.hold_buffer.specs.layers.Places.{ring_of}
use Rattle.hold_buffer.proofs.Placed.{popped_ring, popped_ring_kept}
use Rattle.hold_buffer.proofs.ring.Ring.pop_front.Goals as goal

pub invariant_of-self-2 : goal.invariant_of-self-2
invariant_of-self-2 c =
    popped_ring_kept c.self.inside.order c.self.inside.raws c.self.invariant c.pop_front.new.self c.remove-raw.new.self c.in_ok-sequence.sequence c.in_ok-sequence.place
    c.remove-raw.ensures.updates (sym c.in_ok-sequence.ensures.value) c.in_ok-sequence.ensures.items c.remove-raw.ensures.len c.remove-raw.ensures.capacity

pub returns-clause-items : goal.returns-clause-items
returns-clause-items c =
    subst (λ (b : Buffer (ℕ × List ℕ)). ring_of c.pop_front.new.self c.remove-raw.new.self ≡ buffer (drop 1 b.items) b.capacity) c.self.view_is
    (popped_ring c.self.inside.order c.self.inside.raws c.self.invariant c.pop_front.new.self c.remove-raw.new.self c.in_ok-sequence.sequence c.in_ok-sequence.place
    c.remove-raw.ensures.updates (sym c.in_ok-sequence.ensures.value) c.in_ok-sequence.ensures.items)
