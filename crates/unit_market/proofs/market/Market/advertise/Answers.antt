use Rattle.std.proofs.Common.{length, sym, subst}
use Rattle.pitch_model.specs.Advertising.{with_sequence}
use Rattle.unit_market.specs.Markets.{Journal, MarketHas}
use Rattle.unit_market.specs.Standing.{MarketState}
use Rattle.unit_market.proofs.Having.{has_advertised}
use Rattle.unit_market.proofs.market.Market.advertise.Goals as goal

pub invariant_of-self-2 : goal.invariant_of-self-2
invariant_of-self-2 c =
    let old : MarketState = record { venue = c.self.inside.venue; store = c.self.inside.store; shelf = c.self.inside.shelf } in
    let j : Journal = c.self.invariant.journal in
    record {
      journal = record j { advertised = with_sequence j.advertised (length j.messages) };
      has = has_advertised old c.advertise.new.self j c.self.invariant.has c.in_ok-sequence.ensures.ok;
    }

pub returns-clause-ok : goal.returns-clause-ok
returns-clause-ok c j given =
    let old : MarketState = record { venue = c.self.inside.venue; store = c.self.inside.store; shelf = c.self.inside.shelf } in
    has_advertised old c.advertise.new.self j (subst (λ (m : MarketState). MarketHas m j) (sym c.self.view_is) given) c.in_ok-sequence.ensures.ok
