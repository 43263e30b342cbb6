use Rattle.std.proofs.Common.{rules, arith, ◌++◌, [], ◌∷◌, List, ℕ, length, take, refl, sym, ap, ◌∙◌, subst}
use Rattle.std.proofs.lemmas.List.{take_all}
use Rattle.std.proofs.lemmas.Option.{slice_get_read}
use Rattle.unit_packets.proofs.Packs.{bytes_at, bytes_more}
use Rattle.pitch_messages.specs.Room.{Roomy}
use Rattle.heard_items.specs.Datagrams.{IsPiece}
use Rattle.unit_packets.specs.Packing.{bytes_in}
use Rattle.venue_core.specs.Plan.{plan}
use Rattle.unit_threads.proofs.publisher.shared_copies.Goals as goal

pub of_bytes-requires : goal.of_bytes-requires
of_bytes-requires g c =
    let P : List ℕ → Type 0 = IsPiece (plan g.R.DrillRun.number g.R.DrillRun.unit g.R.DrillRun.count) g.R.DrillRun.unit in
    let lists = c.args.datagrams.now in
    let at = slice_get_read lists (length lists) c.copied.datagram-index c.datagram-item.result refl (search rules) c.datagram-item.is in
    subst P (sym c.bytes.ensures) (bytes_at P lists c.copied.datagram-index c.datagram-item.result at c.requires)

pub copied-preserved : goal.copied-preserved
copied-preserved g c =
    let lists = c.args.datagrams.now in
    let at = slice_get_read lists (length lists) c.copied.datagram-index c.datagram-item.result refl (search rules) c.datagram-item.is in
    c.in_ok-push.ensures.items
    ∙ ap (λ (l : List (List ℕ)). l ++ c.in_ok-copy.copy ∷ []) c.copied.invariant
    ∙ ap (λ (d : List ℕ). bytes_in (take c.copied.datagram-index lists) ++ d ∷ []) (c.in_ok-copy.ensures ∙ c.bytes.ensures)
    ∙ sym (bytes_more lists c.copied.datagram-index c.datagram-item.result at)

pub returns : goal.returns
returns g c =
    let lists = c.args.datagrams.now in
    c.copied.invariant ∙ ap (λ (ls : List (Roomy ℕ)). bytes_in ls) (take_all c.copied.datagram-index lists (omega arith))
