use Rattle.std.proofs.Common.{List, subst}
use Rattle.unit_packets.specs.Blocks.{Block}
use Rattle.pitch_model.specs.Honest.{Honest}
use Rattle.heard_items.specs.HeardBlocks.{heard_block}
use Rattle.heard_items.specs.Units.{unit_history}
use Rattle.heard_items.proofs.Units.{history_same}
use Rattle.best_quotes.specs.Units.{IsQuoted, HaveQuoted}
use Rattle.best_quotes.proofs.Quoted.{units_hear}
use Rattle.best_quotes.proofs.units.QuotedUnits.hear.Goals as goal

-- what stood at the unit's place
stood : (c : goal.In_ok-change) (before : List Block) → HaveQuoted c.self.inside.units before → IsQuoted c.self.inside.units.limit before c.args.block.now.unit c.place_of.result.now
stood c before heard = heard.each c.args.block.now.unit c.place_of.result.now c.place_of.ensures.there

pub returns-clause-heard : goal.returns-clause-heard
returns-clause-heard c = rw (← c.self.view_is) (λ before heard.
    let table = c.self.inside.units in
    units_hear table.limit table.places c.hear_at.new.slot c.args.block.now before heard
    (rw c.limit-limit.ensures.value at c.in_ok-change.ensures.stands before (stood c before heard)))

pub returns-clause-quotes : goal.returns-clause-quotes
returns-clause-quotes c = rw (← c.self.view_is) (λ before Image V heard honest.
    let block = c.args.block.now in
    let there : Honest Image V (heard_block block (unit_history block.unit before)) = subst (Honest Image V) (history_same block before) honest in
    rw c.limit-limit.ensures.value at c.in_ok-change.ensures.quotes before Image V (stood c before heard) there)

pub returns-clause-change : goal.returns-clause-change
returns-clause-change c = rw (← c.self.view_is) (λ before heard. rw c.limit-limit.ensures.value at c.in_ok-change.ensures.change before (stood c before heard))
