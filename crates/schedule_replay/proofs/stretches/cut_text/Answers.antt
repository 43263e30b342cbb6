use Rattle.std.proofs.Common.{ℕ, ◌-◌, List, take, drop, length, refl}
use Rattle.schedule_replay.proofs.Cutting.{cuts_none, cuts_more, cuts_all, rest_is}
use Rattle.schedule_replay.proofs.stretches.cut_text.Goals as goal

pub cutting-init : goal.cutting-init
cutting-init c = cuts_none c.args.text.now c.new-order.result.items c.in_ok-lists.lists.items c.new-order.ensures.items c.in_ok-lists.ensures

pub cutting-preserved : goal.cutting-preserved
cutting-preserved c =
    let text : List ℕ = c.args.text.now in
    let at : ℕ = c.cutting.at in
    let front = c.first_stretch-front in
    cuts_more text (take (length text - at) (drop at text)) c.cutting.order.items _ c.cutting.lists.items _ front.result.unit front.result.lines _ _ (record { at = at; size = front.result.size; before = c.cutting.before })
    (rest_is at (length text) text refl) front.ensures.splits front.ensures.within front.ensures.few refl refl c.in_ok-push.ensures.items c.in_ok-add_stretch.ensures c.cutting.invariant

pub returns : goal.returns
returns c = cuts_all c.args.text.now c.cutting.at c.cutting.before c.cutting.order.items c.cutting.lists.items c.cutting-test.false c.cutting.invariant
