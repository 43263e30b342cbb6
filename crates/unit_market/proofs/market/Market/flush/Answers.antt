use Rattle.std.proofs.Common.{length, sym, subst}
use Rattle.unit_market.specs.Markets.{Journal, MarketHas}
use Rattle.unit_market.specs.Standing.{MarketState}
use Rattle.unit_market.proofs.Having.{has_sent_all}
use Rattle.unit_market.proofs.market.Market.flush.Goals as goal

pub invariant_of-self-2 : goal.invariant_of-self-2
invariant_of-self-2 c =
    let old : MarketState = record { venue = c.self.inside.venue; store = c.self.inside.store; shelf = c.self.inside.shelf } in
    let j : Journal = c.self.invariant.journal in
    let has : MarketHas old j = c.self.invariant.has in
    record {
      journal = record j { sent = length j.messages };
      has = has_sent_all old c.flush.new.self j has c.flush.ensures.unit (c.in_ok-count.ensures.stands j.messages j.sent has.venue);
    }

pub returns-clause-ok : goal.returns-clause-ok
returns-clause-ok c j given =
    let old : MarketState = record { venue = c.self.inside.venue; store = c.self.inside.store; shelf = c.self.inside.shelf } in
    let has : MarketHas old j = subst (λ (m : MarketState). MarketHas m j) (sym c.self.view_is) given in
    has_sent_all old c.flush.new.self j has c.flush.ensures.unit (c.in_ok-count.ensures.stands j.messages j.sent has.venue)
