use Rattle.std.proofs.Common.{subst, sym, [], ◌≡◌}
use Rattle.unit_packets.specs.Packing.{bytes_in}
use Rattle.venue_core.specs.Waiting.{Waiting}
use Rattle.venue_core.specs.layers.Taking.{late_of}
use Rattle.venue_core.proofs.Sending.{taken_some}
use Rattle.venue_core.proofs.outbox.Outbox.take.Goals as goal

pub invariant_of-self : goal.invariant_of-self
invariant_of-self c =
    taken_some (record { first = c.self.inside.first; next = c.self.inside.next; packing = c.self.inside.packer; full = bytes_in c.self.inside.full.items; last = c.self.inside.last; late = late_of c.self.inside.late c.self.inside.last }) c.args.raw c.bytes-bytes.ensures.raw
    (subst (λ (w : Waiting). w.late ≡ []) (sym c.self.view_is) c.requires.settled) c.self.invariant
