use Rattle.std.proofs.Common.{arith, sym}
use Rattle.unit_packets.proofs.PackingAll.{may_push, more_so_far}
use Rattle.gap_store.proofs.Ranges.{packs_first, packs_last, next_raw, none_left, range_size}
use Rattle.gap_store.proofs.store.pack_out.Goals as goal

pub packs-init : goal.packs-init
packs-init c = packs_first c.args.ring.now.items c.args.at c.args.count c.args.packer c.args.out.now.items c.requires.begins

pub push_bytes-requires-clause-next : goal.push_bytes-requires-clause-next
push_bytes-requires-clause-next c =
    may_push _ _ _ _ _ c.bytes.result.now _ _ _ c.packs.invariant
    (next_raw c.args.ring.now.items c.args.at c.args.count c.packs.i c.in-Some.raw.now c.bytes.result.now (omega arith) (sym c.in-Some.ensures) c.bytes.ensures.bytes c.bytes.ensures.raw)
    (range_size c.args.ring.now.items c.args.at c.args.count c.args.packer.sequence (omega arith) c.requires.within)

pub packs-preserved : goal.packs-preserved
packs-preserved c =
    more_so_far _ _ _ _ _ c.bytes.result.now _ _ _ c.packs.invariant
    (next_raw c.args.ring.now.items c.args.at c.args.count c.packs.i c.in-Some.raw.now c.bytes.result.now (omega arith) (sym c.in-Some.ensures) c.bytes.ensures.bytes c.bytes.ensures.raw)
    _ _ c.in-Ok.ensures.ok

pub returns-in-Ok-finish-clause-ok : goal.returns-in-Ok-finish-clause-ok
returns-in-Ok-finish-clause-ok c =
    packs_last _ _ _ _ _ _ _ _ _ c.packs.invariant (none_left c.args.ring.now.items c.args.at c.args.count c.packs.i (omega arith))
    (range_size c.args.ring.now.items c.args.at c.args.count c.args.packer.sequence (omega arith) c.requires.within) c.in-Ok-finish.ensures.ok c.in-Ok-finish.ensures.packing
