use Rattle.std.proofs.Common.{◌≡◌, drop}
use Rattle.circular_buffer.specs.Buffer.{buffer}
use Rattle.hold_buffer.proofs.ring.Ring.drop_front.Given as goal

abbrev pub invariant-loop-dropped : goal.invariant-loop-dropped
invariant-loop-dropped l = l.self ≡ buffer (drop l._dropped l.fn.self.items) l.fn.self.capacity
