use Rattle.std.proofs.Common.{List, subst}
use Rattle.unit_packets.specs.Blocks.{Block}
use Rattle.unit_clients.specs.Clients.{HaveHeard}
use Rattle.unit_clients.specs.Tables.{with_place}
use Rattle.unit_clients.proofs.Hearing.{table_hears, all_still}
use Rattle.pitch_model.proofs.Results.{on_err}
use Rattle.pitch_model.specs.History.{Entry}
use Rattle.pitch_model.specs.Honest.{Honest}
use Rattle.heard_items.specs.HeardBlocks.{heard_block}
use Rattle.heard_items.specs.Units.{unit_history}
use Rattle.heard_items.proofs.Units.{history_same, honest_block}
use Rattle.leveled_units.specs.Hearing.{KeepSpare}
use Rattle.leveled_units.proofs.Spared.{others_stay, spare_kept}
use Rattle.leveled_units.proofs.units.LeveledUnits.hear_quoted.Goals as goal

pub returns-clause-heard : goal.returns-clause-heard
returns-clause-heard c = rw (← c.self.view_is)
    (table_hears c.self.inside.units c.args.block.now c.place_of.result.now c.hear_quoted_at.new.slot c.place_of.ensures.there
    (rw c.limit-limit.ensures.value at c.in_ok-heard.ensures.tracks) c.in_ok-heard.ensures.keeps)

pub returns-clause-change : goal.returns-clause-change
returns-clause-change c = rw (← c.self.view_is) (λ before heard.
    let unit = c.args.block.now.unit in
    rw c.limit-limit.ensures.value at c.in_ok-heard.ensures.change before unit (heard.clients.each unit c.place_of.result.now c.place_of.ensures.there))

pub returns-in_err-heard-clause-err : goal.returns-in_err-heard-clause-err
returns-in_err-heard-clause-err c = rw (← c.self.view_is) (
    let table = c.self.inside.units in
    let unit = c.args.block.now.unit in
    let slot = c.hear_quoted_at.new.slot in
    on_err ((before : List Block) → HaveHeard table before → HaveHeard (with_place table unit slot) before) c.from_residual.result
    (all_still table unit c.place_of.result.now slot c.place_of.ensures.there c.in_err-heard.ensures.err))

pub returns-clause-quotes : goal.returns-clause-quotes
returns-clause-quotes c = λ told. rw (← c.self.view_is) (λ before Image V heard honest.
    let block = c.args.block.now in
    let was = c.place_of.result.now in
    let E : List Entry = unit_history block.unit before in
    let there : Honest Image V (heard_block block E) = subst (Honest Image V) (history_same block before) honest in
    let kept = heard.keep.each block.unit was c.place_of.ensures.there Image V (honest_block Image V block E there) in
    rw c.limit-limit.ensures.value at c.in_ok-heard.ensures.quotes told Image V before block.unit (heard.clients.each block.unit was c.place_of.ensures.there) there kept)

pub returns-clause-untold : goal.returns-clause-untold
returns-clause-untold c = λ untold. rw (← c.self.view_is) (λ before heard.
    let unit = c.args.block.now.unit in
    rw c.limit-limit.ensures.value at c.in_ok-heard.ensures.untold untold before unit (heard.clients.each unit c.place_of.result.now c.place_of.ensures.there))

pub returns-clause-others : goal.returns-clause-others
returns-clause-others c = rw (← c.self.view_is) (others_stay c.self.inside.units c.args.block.now.unit c.hear_quoted_at.new.slot)

pub returns-in_err-heard-clause-others : goal.returns-in_err-heard-clause-others
returns-in_err-heard-clause-others c = rw (← c.self.view_is) (others_stay c.self.inside.units c.args.block.now.unit c.hear_quoted_at.new.slot)

pub returns-in_err-heard-clause-kept : goal.returns-in_err-heard-clause-kept
returns-in_err-heard-clause-kept c = rw (← c.self.view_is) (
    let table = c.self.inside.units in
    let unit = c.args.block.now.unit in
    let slot = c.hear_quoted_at.new.slot in
    on_err (KeepSpare table (with_place table unit slot)) c.from_residual.result
    (spare_kept table unit c.place_of.result.now slot c.place_of.ensures.there c.in_err-heard.ensures.err))
