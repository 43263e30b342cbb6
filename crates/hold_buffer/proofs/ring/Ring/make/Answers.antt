use Rattle.std.proofs.Common.{arith}
use Rattle.hold_buffer.proofs.Placed.{empty_ring}
use Rattle.hold_buffer.proofs.ring.Ring.make.Goals as goal

pub invariant_of-result : goal.invariant_of-result
invariant_of-result c =
    let value = c.capacity.ensures.value in
    let test = c.if-capacity.false in
    empty_ring c.in_ok-order.order c.in_ok-raws.raws c.args.limit c.in_ok-order.ensures c.in_ok-raws.ensures.empty c.in_ok-raws.ensures.capacity (omega arith)
