use Rattle.std.proofs.Common.{rules, ◌++◌, ℕ, List, length, take, refl, sym, ap, ◌∙◌, append_assoc}
use Rattle.std.specs.List.{concat}
use Rattle.std.proofs.lemmas.List.{take_at}
use Rattle.std.proofs.lemmas.Option.{slice_get_read}
use Rattle.unit_packets.specs.Packing.{bytes_in}
use Rattle.unit_packets.proofs.Packed.{joined_more}
use Rattle.unit_packets.proofs.joined.append_datagrams.Goals as goal

pub datagrams-preserved : goal.datagrams-preserved
datagrams-preserved c =
    let i : ℕ = c.datagrams.datagram-index in
    let at = slice_get_read c.args.datagrams.now (length c.args.datagrams.now) i c.datagram-item.result refl (search rules) c.datagram-item.is in
    record {
      so_far = c.in-Ok.ensures.ok
          ∙ ap (λ (l : List ℕ). l ++ c.bytes.result.now) c.datagrams.invariant.so_far
          ∙ append_assoc c.args.out.now.items (concat (bytes_in (take i c.args.datagrams.now))) c.bytes.result.now
          ∙ ap (λ (l : List ℕ). c.args.out.now.items ++ l) (ap (λ (b : List ℕ). concat (bytes_in (take i c.args.datagrams.now)) ++ b) c.bytes.ensures ∙ sym (joined_more c.args.datagrams.now i c.datagram-item.result at));
      before = c.datagrams.invariant.before;
    }

pub returns-in-Err-clause-err : goal.returns-in-Err-clause-err
returns-in-Err-clause-err c =
    let added = concat (bytes_in (take c.datagrams.datagram-index c.args.datagrams.now)) in
    c.truncate.ensures.items
    ∙ ap (λ (n : ℕ). take n c.append_bytes.new.out.items) c.datagrams.invariant.before
    ∙ ap (take (length c.args.out.now.items)) (c.in-Err.ensures.err ∙ c.datagrams.invariant.so_far)
    ∙ take_at c.args.out.now.items added (length c.args.out.now.items) refl
