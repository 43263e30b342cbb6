use Rattle.std.proofs.Common.{List}
use Rattle.unit_packets.specs.Blocks.{Block}
use Rattle.unit_clients.specs.Clients.{HaveHeard}
use Rattle.unit_clients.specs.Tables.{with_place}
use Rattle.unit_clients.proofs.Hearing.{table_hears, all_still}
use Rattle.pitch_model.proofs.Results.{on_err}
use Rattle.leveled_units.specs.Hearing.{KeepSpare}
use Rattle.leveled_units.proofs.Spared.{others_stay, spare_kept}
use Rattle.leveled_units.proofs.units.LeveledUnits.hear_block.Goals as goal

pub returns-clause-heard : goal.returns-clause-heard
returns-clause-heard c = rw (← c.self.view_is)
    (table_hears c.self.inside.units c.args.block.now c.place_of.result.now c.hear_at.new.slot c.place_of.ensures.there
    (rw c.limit-limit.ensures.value at c.in_ok-change.ensures.tracks) c.in_ok-change.ensures.keeps)

pub returns-clause-change : goal.returns-clause-change
returns-clause-change c = rw (← c.self.view_is) (λ before heard.
    let unit = c.args.block.now.unit in
    rw c.limit-limit.ensures.value at c.in_ok-change.ensures.change before unit (heard.clients.each unit c.place_of.result.now c.place_of.ensures.there))

pub returns-in_err-change-clause-err : goal.returns-in_err-change-clause-err
returns-in_err-change-clause-err c = rw (← c.self.view_is) (
    let table = c.self.inside.units in
    let unit = c.args.block.now.unit in
    let slot = c.hear_at.new.slot in
    on_err ((before : List Block) → HaveHeard table before → HaveHeard (with_place table unit slot) before) c.from_residual.result
    (all_still table unit c.place_of.result.now slot c.place_of.ensures.there c.in_err-change.ensures.err))

pub returns-clause-others : goal.returns-clause-others
returns-clause-others c = rw (← c.self.view_is) (others_stay c.self.inside.units c.args.block.now.unit c.hear_at.new.slot)

pub returns-in_err-change-clause-others : goal.returns-in_err-change-clause-others
returns-in_err-change-clause-others c = rw (← c.self.view_is) (others_stay c.self.inside.units c.args.block.now.unit c.hear_at.new.slot)

pub returns-in_err-change-clause-kept : goal.returns-in_err-change-clause-kept
returns-in_err-change-clause-kept c = rw (← c.self.view_is) (
    let table = c.self.inside.units in
    let unit = c.args.block.now.unit in
    let slot = c.hear_at.new.slot in
    on_err (KeepSpare table (with_place table unit slot)) c.from_residual.result
    (spare_kept table unit c.place_of.result.now slot c.place_of.ensures.there c.in_err-change.ensures.err))
