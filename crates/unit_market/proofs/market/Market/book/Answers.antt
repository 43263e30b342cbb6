use Rattle.std.proofs.Common.{sym, subst}
use Rattle.unit_market.specs.Markets.{MarketHas}
use Rattle.unit_market.specs.Standing.{MarketState}
use Rattle.unit_market.proofs.market.Market.book.Goals as goal

pub returns : goal.returns
returns c j given =
    let has : MarketHas (record { venue = c.self.inside.venue; store = c.self.inside.store; shelf = c.self.inside.shelf }) j = subst (λ (m : MarketState). MarketHas m j) (sym c.self.view_is) given in
    c.book.ensures j.messages j.sent has.venue
