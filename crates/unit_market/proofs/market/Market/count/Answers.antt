use Rattle.std.proofs.Common.{◌≡◌, ◌+◌, length, sym, subst, arith}
use Rattle.unit_market.specs.Markets.{Journal, MarketHas}
use Rattle.unit_market.specs.Standing.{MarketState}
use Rattle.unit_market.proofs.market.Market.count.Goals as goal

pub overflow_sub-result : goal.overflow_sub-result
overflow_sub-result c =
    let j : Journal = c.self.invariant.journal in
    let has = c.self.invariant.has in
    let next : c.next_sequence.result ≡ length j.messages + 1 = c.next_sequence.ensures j.messages j.sent has.venue in
    omega (arith, next)

pub returns : goal.returns
returns c j given =
    let has : MarketHas (record { venue = c.self.inside.venue; store = c.self.inside.store; shelf = c.self.inside.shelf }) j = subst (λ (m : MarketState). MarketHas m j) (sym c.self.view_is) given in
    let next : c.next_sequence.result ≡ length j.messages + 1 = c.next_sequence.ensures j.messages j.sent has.venue in
    omega (arith, next)
