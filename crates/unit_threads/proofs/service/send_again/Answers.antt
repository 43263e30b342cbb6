use Rattle.std.proofs.Common.{rules, arith, ◌++◌, List, ℕ, length, map, refl, sym, ap, ◌∙◌, subst}
use Rattle.std.proofs.lemmas.List.{append-nil, take_all}
use Rattle.std.proofs.lemmas.Option.{slice_get_read}
use Rattle.unit_packets.proofs.Packs.{bytes_at}
use Rattle.pitch_messages.specs.Room.{Roomy}
use Rattle.heard_items.specs.Datagrams.{IsPiece}
use Rattle.unit_packets.specs.Packing.{bytes_in}
use Rattle.venue_core.specs.Plan.{plan}
use Rattle.drill_client.specs.declared.words.Reply.TheVariants.{Again}
use Rattle.unit_threads.proofs.Saying.{sent_one_more}
use Rattle.unit_threads.proofs.service.send_again.Goals as goal

pub copied-init : goal.copied-init
copied-init g c = sym (append-nil c.args.replies.now)

pub of_bytes-requires : goal.of_bytes-requires
of_bytes-requires g c =
    let P : List ℕ → Type 0 = IsPiece (plan g.R.DrillRun.number g.R.DrillRun.unit g.R.DrillRun.count) g.R.DrillRun.unit in
    let lists = c.args.datagrams.now in
    let at = slice_get_read lists (length lists) c.copied.datagram-index c.datagram-item.result refl (search rules) c.datagram-item.is in
    subst P (sym c.bytes.ensures) (bytes_at P lists c.copied.datagram-index c.datagram-item.result at c.requires)

pub copied-preserved : goal.copied-preserved
copied-preserved g c =
    let lists = c.args.datagrams.now in
    let at = slice_get_read lists (length lists) c.copied.datagram-index c.datagram-item.result refl (search rules) c.datagram-item.is in
    sent_one_more Again c.args.replies.now c.copied.replies c.send.new.self lists c.copied.datagram-index c.datagram-item.result c.in_ok-copy.copy at (c.in_ok-copy.ensures ∙ c.bytes.ensures) c.copied.invariant c.in_ok-send.ensures

pub returns : goal.returns
returns g c =
    let lists = c.args.datagrams.now in
    c.copied.invariant ∙ ap (λ (ls : List (Roomy ℕ)). c.args.replies.now ++ map Again (bytes_in ls)) (take_all c.copied.datagram-index lists (omega arith))
