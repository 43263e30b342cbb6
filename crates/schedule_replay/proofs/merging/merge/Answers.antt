use Rattle.std.proofs.Common.{arith, get_or, ℕ, List, ◌≡◌, ◌+◌, ◌<◌, Some, length, take, refl, sym, subst, ap, ◌∙◌}
use Rattle.std.proofs.Math.ListN.{set}
use Rattle.std.specs.List.{slice_get}
use Rattle.std.proofs.lemmas.List.{take_all}
use Rattle.std.proofs.lemmas.Option.{slice_get_read, slice_get-get_or}
use Rattle.schedule_replay.specs.declared.merging.Unmerged.{Unmerged}
use Rattle.schedule_replay.proofs.Joining.{Merging, merging_none, merging_more, merging_end}
use Rattle.schedule_replay.proofs.Printing.{behind_on}
use Rattle.schedule_replay.proofs.merging.merge.Goals as goal

pub stretches-init : goal.stretches-init
stretches-init c = record {
  so_far = subst (λ (o : List ℕ). Merging c.args.order.now 0 c.args.lefts.now.items c.args.lefts.now.items c.args.out.now.items o) (sym c.reserve_all.ensures)
      (merging_none c.args.order.now c.args.lefts.now.items c.args.out.now.items);
  behind = ap (take (length c.args.out.now.items)) c.reserve_all.ensures ∙ take_all (length c.args.out.now.items) c.args.out.now.items (omega arith);
}

pub stretches-preserved : goal.stretches-preserved
stretches-preserved c =
    let all : List ℕ = c.args.order.now in
    let i : ℕ = c.stretches.whose-index in
    let s : ℕ = get_or all i 0 in
    let lefts : List Unmerged = c.stretches.lefts.items in
    let there : slice_get all i ≡ Some s = slice_get-get_or all i 0 (omega (arith, c.stretches-test.true)) in
    let within : c.from-unit.result < length lefts = omega (arith, c.if-unit-len.false, c.len.ensures) in
    let low : s < length lefts = omega (arith, within, c.from-unit.ensures) in
    let at : slice_get lefts s ≡ Some c.index_mut.result.now =
    subst (λ (u : ℕ). slice_get lefts u ≡ Some c.index_mut.result.now) c.from-unit.ensures (slice_get_read lefts (length lefts) c.from-unit.result c.index_mut.result.now refl within c.index_mut.ensures.value) in
    record {
      so_far = subst (λ (u : ℕ). Merging all (i + 1) c.args.lefts.now.items (set lefts u c.take_piece.new.left) c.args.out.now.items c.take_piece.new.out.items) (sym c.from-unit.ensures)
          (merging_more all i s c.args.lefts.now.items lefts c.args.out.now.items c.stretches.out.items c.take_piece.new.out.items c.index_mut.result.now c.take_piece.new.left there c.stretches.invariant.so_far low at
          c.in_ok-take_piece.ensures.text c.in_ok-take_piece.ensures.left);
      behind = behind_on c.args.out.now.items c.stretches.out.items c.take_piece.new.out.items c.take_piece.ensures.behind c.stretches.invariant.behind;
    }

pub returns-clause-text : goal.returns-clause-text
returns-clause-text c = merging_end c.args.order.now c.stretches.whose-index c.args.lefts.now.items c.stretches.lefts.items c.args.out.now.items c.stretches.out.items c.stretches-test.false c.stretches.invariant.so_far
