use Rattle.std.proofs.Common.{rules, arith, ◌≡◌, List, ℕ, length, take, refl, sym, ap, ◌∙◌, subst}
use Rattle.std.proofs.lemmas.List.{take_all}
use Rattle.std.proofs.lemmas.Option.{slice_get_read}
use Rattle.unit_packets.proofs.Packs.{bytes_at}
use Rattle.pitch_messages.specs.Room.{Roomy}
use Rattle.unit_packets.specs.Cutting.{blocks_of}
use Rattle.unit_packets.specs.Packing.{bytes_in}
use Rattle.pitch_model.specs.History.{Entry}
use Rattle.heard_items.specs.Datagrams.{IsPiece, heard_blocks}
use Rattle.drill_client.specs.layers.Following.{Follows, heard_datagrams}
use Rattle.drill_client.proofs.Going.{heard_one_more}
use Rattle.drill_client.proofs.following.hear_datagrams.Goals as goal

pub sent-preserved : goal.sent-preserved
sent-preserved c V unit all H E f =
    let i = c.sent.datagram-index in
    let lists = c.args.datagrams.now in
    let at = slice_get_read lists (length lists) i c.datagram-item.result refl (search rules) c.datagram-item.is in
    let piece = bytes_at (IsPiece V unit) lists i c.datagram-item.result at all in
    let so_far : List Entry = heard_datagrams (bytes_in (take i lists)) E in
    subst (Follows c.hear_datagram.new.client H V)
    (ap (λ (d : List ℕ). heard_blocks (blocks_of d) so_far) c.bytes.ensures ∙ sym (heard_one_more lists i c.datagram-item.result at E))
    (c.in_ok-hear_datagram.ensures V unit (subst (IsPiece V unit) (sym c.bytes.ensures) piece) H so_far (c.sent.invariant V unit all H E f))

pub returns : goal.returns
returns c V unit all H E f =
    let lists = c.args.datagrams.now in
    let whole : heard_datagrams (bytes_in (take c.sent.datagram-index lists)) E ≡ heard_datagrams (bytes_in lists) E =
    ap (λ (ls : List (Roomy ℕ)). heard_datagrams (bytes_in ls) E) (take_all c.sent.datagram-index lists (omega arith)) in
    subst (Follows c.sent.client H V) whole (c.sent.invariant V unit all H E f)
