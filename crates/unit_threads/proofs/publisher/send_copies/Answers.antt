use Rattle.std.proofs.Common.{rules, arith, ◌++◌, List, ℕ, length, map, refl, sym, ap, ◌∙◌}
use Rattle.std.proofs.lemmas.List.{append-nil, take_all}
use Rattle.std.proofs.lemmas.Option.{slice_get_read}
use Rattle.drill_client.specs.declared.words.Word.TheVariants.{Sent}
use Rattle.unit_threads.proofs.Saying.{one_sent_more}
use Rattle.unit_threads.proofs.publisher.send_copies.Goals as goal

pub shared-init : goal.shared-init
shared-init g c = sym (append-nil c.args.words.now)

pub shared-preserved : goal.shared-preserved
shared-preserved g c =
    let lists = c.args.datagrams.now in
    let at = slice_get_read lists (length lists) c.shared.datagram-index c.datagram-item.result refl (search rules) c.datagram-item.is in
    one_sent_more Sent c.args.words.now c.shared.words c.send.new.self lists c.shared.datagram-index c.datagram-item.result c.in_ok-copy.copy at c.in_ok-copy.ensures c.shared.invariant c.in_ok-send.ensures

pub returns : goal.returns
returns g c =
    let lists = c.args.datagrams.now in
    c.shared.invariant ∙ ap (λ (ls : List (List ℕ)). c.args.words.now ++ map Sent ls) (take_all c.shared.datagram-index lists (omega arith))
