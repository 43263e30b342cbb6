use Rattle.unit_packets.proofs.PackingAll.{none_so_far, may_push, more_so_far}
use Rattle.unit_packets.proofs.packing.pack.Goals as goal

pub messages-init : goal.messages-init
messages-init c = none_so_far _ _ _ _ _ c.make-packer.ensures.packed

pub messages-preserved : goal.messages-preserved
messages-preserved c =
    more_so_far _ _ _ _ _ c.in-Some.raw.now _ _ _ c.messages.invariant c.in-Some.ensures _ _
    c.in-Ok.ensures.ok

pub push_bytes-requires-clause-next : goal.push_bytes-requires-clause-next
push_bytes-requires-clause-next c = may_push _ _ _ _ _ c.in-Some.raw.now _ _ _ c.messages.invariant c.in-Some.ensures c.requires
