use Rattle.std.proofs.Common.{ℕ, List, ◌∷◌, subst}
use Rattle.unit_packets.specs.Blocks.{Block}
use Rattle.relay_unit.specs.layers.Calls.{AppendVenues}
use Rattle.relay_unit.specs.layers.Places.{AppendsThere}
use Rattle.client_core.specs.Venues.{IsVenue}
use Rattle.relay_unit.specs.Relays.{Relays, HaveRelayed, IsRelay}
use Rattle.relay_unit.specs.Sparing.{IsSpentBy, messages_heard}
use Rattle.relay_unit.specs.declared.relay.RelayError.{RelayError}
use Rattle.relay_unit.proofs.Units.{relays_hear, relays_send, history_same, handed_on, spent_same}
use Rattle.relay_unit.proofs.relays.Relays.hear.Goals as goal

-- what stood at the unit's place
stood : (c : goal.In_ok-change) (before : List Block) → HaveRelayed c.self.inside.relays before → IsRelay c.self.inside.relays.limit before c.args.block.now.unit c.place_of.result.now
stood c before heard = heard.each c.args.block.now.unit c.place_of.result.now c.place_of.ensures.there

pub returns-clause-heard : goal.returns-clause-heard
returns-clause-heard c = rw (← c.self.view_is) (λ before heard.
    let table = c.self.inside.relays in
    relays_hear table.limit table.places c.hear_at.new.slot c.args.block.now before heard
    (rw c.limit-limit.ensures.value at c.in_ok-change.ensures.stands before (stood c before heard)))

pub returns-clause-sends : goal.returns-clause-sends
returns-clause-sends c =
    let block = c.args.block.now in
    let out = c.args.out.now.items in
    let out' = c.hear_at.new.out.items in
    let there = subst (λ (H : ℕ). AppendsThere H c.place_of.result.now block out out') c.limit-limit.ensures.value c.in_ok-change.ensures.sends in
    subst (λ (r : Relays). AppendVenues r block out out') c.self.view_is (λ before V heard venue.
    let H = c.self.inside.relays.limit in
    there before V (stood c before heard) (subst (IsVenue V) (history_same H block before) venue))

pub returns-clause-change : goal.returns-clause-change
returns-clause-change c = rw (← c.self.view_is) (λ before heard. rw c.limit-limit.ensures.value at c.in_ok-change.ensures.change before (stood c before heard))

pub returns-in_err-change-clause-many : goal.returns-in_err-change-clause-many
returns-in_err-change-clause-many c = rw (← c.self.view_is) (
    let table = c.self.inside.relays in
    let block = c.args.block.now in
    handed_on c.from_residual.result c.in_err-change.field-0.0
    (λ (error : RelayError). (before : List Block) → HaveRelayed table before → IsSpentBy (messages_heard block.unit (block ∷ before)) error)
    c.from_residual.ensures
    (λ before heard. spent_same block before c.in_err-change.field-0.0
    (rw c.limit-limit.ensures.value at c.in_err-change.ensures.many before (heard.each block.unit c.place_of.result.now c.place_of.ensures.there))))

pub returns-clause-any : goal.returns-clause-any
returns-clause-any c = rw (← c.self.view_is)
    (relays_send c.self.inside.relays c.place_of.result.now c.hear_at.new.slot c.args.block.now c.args.out.now.items c.hear_at.new.out.items c.place_of.ensures.there c.in_ok-change.ensures.any)
