use Rattle.std.proofs.Common.{◌++◌, ℕ, List, sym, ap, ◌∙◌, arith}
use Rattle.std.proofs.lemmas.List.{append-nil}
use Rattle.std.proofs.lemmas.Result.{on_ok_weaker}
use Rattle.unit_packets.proofs.Packed.{one_packed, none_packed}
use Rattle.unit_packets.proofs.joined.append_packed.Goals as goal

pub returns-then-len-eq0-clause-ok : goal.returns-then-len-eq0-clause-ok
returns-then-len-eq0-clause-ok c =
    let none = c.len.ensures.length in
    sym (
    ap (λ (l : List ℕ). c.args.out.now.items ++ l) (none_packed c.args.unit c.args.first c.args.raws (omega (arith, c.if-len-eq0.true, none)))
    ∙ append-nil c.args.out.now.items
    )

pub returns-then-is_one_datagram-clause-ok : goal.returns-then-is_one_datagram-clause-ok
returns-then-is_one_datagram-clause-ok c =
    let some = c.len.ensures.length in
    on_ok_weaker c.append_block.result (λ e. e ∙ ap (λ (l : List ℕ). c.args.out.now.items ++ l)
    (one_packed c.args.unit c.args.first c.args.raws (omega (arith, c.if-len-eq0.false, some)) (c.is_one_datagram.ensures c.if-is_one_datagram.true)))
    c.append_block.ensures.ok
