use Rattle.std.proofs.Common.{◌≡◌, ◌+◌, ◌-◌, List, ℕ, ◌++◌, Some, drop, take, length, refl, sym, ap, ◌∙◌, arith}
use Rattle.std.specs.List.{slice_get}
use Rattle.std.proofs.lemmas.Option.{slice_get_read}
use Rattle.schedule_replay.specs.layers.Merging.{first_piece}
use Rattle.schedule_replay.proofs.Joining.{next_piece}
use Rattle.schedule_replay.proofs.merging.take_piece.Goals as goal

pub returns-clause-text : goal.returns-clause-text
returns-clause-text c =
    let lengths : List ℕ = c.args.left.now.lengths.items in
    let text : List ℕ = c.args.left.now.text.items in
    let out : List ℕ = c.args.out.now.items in
    let next : ℕ = c.args.left.now.next in
    let at : ℕ = c.args.left.now.at in
    let size : ℕ = c.index.result.now in
    let there : slice_get lengths next ≡ Some size = slice_get_read lengths (length lengths) next size refl (omega (arith, c.if-next-len.false, c.len.ensures)) c.index.ensures in
    let range : (at + size) - at ≡ size = omega arith in
    c.in_ok-extend_from_slice.ensures.items
    ∙ ap (λ (n : ℕ). out ++ take n (drop at c.deref.result.now)) range
    ∙ ap (λ (t : List ℕ). out ++ take size (drop at t)) c.deref.ensures.value
    ∙ sym (ap (λ (pieces : List (List ℕ)). out ++ first_piece pieces) (next_piece lengths text next at size there))

pub returns-clause-left : goal.returns-clause-left
returns-clause-left c =
    let lengths : List ℕ = c.args.left.now.lengths.items in
    let next : ℕ = c.args.left.now.next in
    let there : slice_get lengths next ≡ Some c.index.result.now = slice_get_read lengths (length lengths) next c.index.result.now refl (omega (arith, c.if-next-len.false, c.len.ensures)) c.index.ensures in
    sym (ap (drop 1) (next_piece lengths c.args.left.now.text.items next c.args.left.now.at c.index.result.now there))
