use Rattle.std.proofs.Common.{◌≡◌, ℕ, List, subst}
use Rattle.std.specs.List.{insert}
use Rattle.circular_buffer.specs.Buffer.{Buffer, buffer}
use Rattle.hold_buffer.specs.layers.Places.{ring_of}
use Rattle.hold_buffer.proofs.Placed.{inserted_ring, inserted_kept}
use Rattle.hold_buffer.proofs.ring.Ring.insert.Goals as goal

pub invariant_of-self : goal.invariant_of-self
invariant_of-self c =
    let put = c.insert_reserved-place in
    inserted_kept c.self.inside.order c.self.inside.raws c.self.invariant c.insert_at.new.order put.new.self c.args.at c.args.sequence put.result c.args.raw
    put.ensures.was_vacant put.ensures.updates c.insert_at.ensures put.ensures.len put.ensures.capacity

pub returns : goal.returns
returns c =
    let put = c.insert_reserved-place in
    subst (λ (b : Buffer (ℕ × List ℕ)). ring_of c.insert_at.new.order put.new.self ≡ buffer (insert b.items c.args.at (c.args.sequence, c.args.raw)) b.capacity) c.self.view_is
    (inserted_ring c.self.inside.order c.self.inside.raws c.self.invariant c.insert_at.new.order put.new.self c.args.at c.args.sequence put.result c.args.raw
    put.ensures.was_vacant put.ensures.updates c.insert_at.ensures)
