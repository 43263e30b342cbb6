use Rattle.std.proofs.Common.{rules, List, Bool, length, take, ◌+◌, ◌∙◌, ◌++◌, ◌||◌, refl, sym, ap, subst}
use Rattle.std.specs.List.{flat_map}
use Rattle.std.proofs.lemmas.Option.{slice_get_read}
use Rattle.unit_packets.specs.Blocks.{Block}
use Rattle.unit_packets.specs.Cutting.{blocks_of}
use Rattle.unit_packets.specs.Packing.{bytes_in}
use Rattle.world_model.specs.layers.Hearing.{HearsBlocks}
use Rattle.world_model.proofs.HeardBlocks.{hears_more, blocks_more}
use Rattle.world_model.proofs.hearing.hear_all.Goals as goal

pub lines-preserved : goal.lines-preserved
lines-preserved c =
    let i = c.lines.datagram-index in
    let all = c.args.datagrams.now in
    let at = slice_get_read all (length all) i c.datagram-item.result refl (search rules) c.datagram-item.is in
    let so_far : List Block = flat_map blocks_of (bytes_in (take i all)) in
    let both = ap (λ (bs : List Block). so_far ++ bs) (ap blocks_of c.bytes.ensures) ∙ sym (blocks_more all i c.datagram-item.result at) in
    subst (λ (b : Bool). HearsBlocks c.args.unit c.args.line c.args.client.now c.hear_datagram.new.client c.args.arbiter.now c.hear_datagram.new.arbiter (flat_map blocks_of (bytes_in (take (i + 1) all))) b) (sym c.either-overflow.ensures)
    (subst (λ (bs : List Block). HearsBlocks c.args.unit c.args.line c.args.client.now c.hear_datagram.new.client c.args.arbiter.now c.hear_datagram.new.arbiter bs (c.lines.overflow || c.in_ok-marked.marked)) both
    (hears_more c.args.unit c.args.line c.args.client.now c.lines.client c.hear_datagram.new.client c.args.arbiter.now c.lines.arbiter c.hear_datagram.new.arbiter so_far (blocks_of c.bytes.result.now) c.lines.overflow c.in_ok-marked.marked
    c.lines.invariant c.in_ok-marked.ensures))
