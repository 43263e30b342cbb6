use Rattle.std.proofs.Common.{ℕ, List, subst, sym, IfOk, IfErr}
use Rattle.circular_buffer.specs.Buffer.{Buffer}
use Rattle.hold_buffer.specs.layers.Places.{IsRising, IsKeyAt, IsGap}
use Rattle.hold_buffer.proofs.Placed.{entries_rise, found_there, room_there}
use Rattle.hold_buffer.proofs.ring.Ring.place.Goals as goal

pub place-requires : goal.place-requires
place-requires c = entries_rise c.self.inside.raws c.self.inside.order.items (subst (λ (b : Buffer (ℕ × List ℕ)). IsRising b.items) (sym c.self.view_is) c.requires)

pub returns-clause-found : goal.returns-clause-found
returns-clause-found c =
    subst (λ (b : Buffer (ℕ × List ℕ)). IfOk c.place.result (λ at. IsKeyAt b.items at c.args.sequence)) c.self.view_is
    (found_there c.self.inside.raws c.self.inside.order.items c.args.sequence c.place.result c.place.ensures.found)

pub returns-clause-gap : goal.returns-clause-gap
returns-clause-gap c =
    subst (λ (b : Buffer (ℕ × List ℕ)). IfErr c.place.result (λ at. IsGap b.items at c.args.sequence)) c.self.view_is
    (room_there c.self.inside.raws c.self.inside.order.items c.args.sequence c.place.result c.place.ensures.gap)
