use Rattle.std.proofs.Common.{refl, subst, sym}
use Rattle.unit_packets.specs.Packing.{bytes_in}
use Rattle.venue_core.specs.Waiting.{Waiting, Waits}
use Rattle.venue_core.specs.layers.Taking.{late_of}
use Rattle.venue_core.proofs.Sending.{late_some, settled_waits, settled_some}
use Rattle.venue_core.proofs.outbox.Outbox.settle.Goals as goal

pub invariant_of-self-2 : goal.invariant_of-self-2
invariant_of-self-2 c =
    settled_some (record { first = c.self.inside.first; next = c.self.inside.next; packing = c.self.inside.packer; full = bytes_in c.self.inside.full.items; last = c.self.inside.last; late = late_of c.self.inside.late c.self.inside.last }) _ c.in-Some.raw
    (record { before = c.self.inside.full.items; after = c.push.new.out.items; pushes = c.in_ok-push.ensures.ok; was = refl; full = refl; first = refl; next = refl; late = late_some _ _ _ c.if-not-self.false c.in-Some.is; settled = refl })
    c.self.invariant

pub returns-clause-waits : goal.returns-clause-waits
returns-clause-waits c unit first messages waits =
    settled_waits (record { first = c.self.inside.first; next = c.self.inside.next; packing = c.self.inside.packer; full = bytes_in c.self.inside.full.items; last = c.self.inside.last; late = late_of c.self.inside.late c.self.inside.last }) _ c.in-Some.raw unit first messages
    (record { before = c.self.inside.full.items; after = c.push.new.out.items; pushes = c.in_ok-push.ensures.ok; was = refl; full = refl; first = refl; next = refl; late = late_some _ _ _ c.if-not-self.false c.in-Some.is; settled = refl })
    (subst (λ (w : Waiting). Waits w unit first messages) (sym c.self.view_is) waits)
