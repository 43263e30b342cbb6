use Rattle.std.proofs.Common.{rules, ℕ, List, length, take, ◌∷◌, [], refl, sym, subst}
use Rattle.std.proofs.lemmas.Option.{slice_get_read}
use Rattle.heard_items.specs.declared.item.Item.{Item}
use Rattle.pitch_model.proofs.Results.{on_err}
use Rattle.client_end.specs.layers.Hearing.{HearsItems}
use Rattle.client_end.proofs.HeardItems.{hears_still, hears_then, items_more}
use Rattle.client_end.proofs.hearing.hear_told.Goals as goal

pub told-preserved : goal.told-preserved
told-preserved c =
    let i = c.told.item-index in
    let all : List Item = c.args.items.now in
    let at = slice_get_read all (length all) i c.item-item.result refl (search rules) c.item-item.is in
    subst (λ (items : List Item). HearsItems c.args.client.now c.hear_item.new.client items) (sym (items_more all i c.item-item.result at))
    (hears_then c.args.client.now c.told.client c.hear_item.new.client (take i all) (c.item-item.result ∷ []) c.told.invariant c.in_ok-hear_item.ensures.hears)

pub returns-in_err-hear_item-clause-err : goal.returns-in_err-hear_item-clause-err
returns-in_err-hear_item-clause-err c =
    let i = c.told.item-index in
    on_err ((count : ℕ) × HearsItems c.args.client.now c.hear_item.new.client (take count c.args.items.now)) c.from_residual.result
    (i, hears_still c.args.client.now c.told.client c.hear_item.new.client (take i c.args.items.now) c.told.invariant c.in_err-hear_item.ensures.err)
