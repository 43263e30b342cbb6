use Rattle.std.proofs.Common.{arith}
use Rattle.hold_buffer.proofs.Placed.{empty_ring}
use Rattle.hold_buffer.proofs.ring.Ring.clear.Goals as goal

pub invariant_of-self : goal.invariant_of-self
invariant_of-self c =
    let same = c.clear-2.ensures.capacity in
    let room = c.self.invariant.room in
    let fits = c.self.invariant.fits in
    empty_ring c.clear.new.self c.clear-2.new.self c.self.inside.order.capacity c.clear.ensures c.clear-2.ensures.empty (omega arith) (omega arith)
