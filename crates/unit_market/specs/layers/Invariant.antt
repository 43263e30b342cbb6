-- What holds of every market, and a market as pairs, lists and numbers. The prover asks for both of
-- each model; no caller needs them.
use Rattle.std.specs.Prelude.{ℕ, List, refl}
use Rattle.std.specs.Coded.{Coded, code_by, coded×, coded_ℕ, coded_list}
use Rattle.gap_store.specs.Look.{Store}
use Rattle.spin_server.specs.layers.ShelfCode.{shelf_code}
use Rattle.spin_server.specs.Shelves.{Shelf}
use Rattle.venue_core.specs.layers.Coding.{venue_code}
use Rattle.venue_core.specs.Standing.{VenueState}
use Rattle.unit_market.specs.Standing.{MarketState}
use Rattle.unit_market.specs.Markets.{Journal, MarketHas}

abbrev pub store_code : Coded Store
store_code = code_by (List (List ℕ) × (ℕ × ℕ))
    (coded× (coded_list (coded_list coded_ℕ)) (coded× coded_ℕ coded_ℕ))
    (λ s. (s.items, (s.room, s.pushed)))
    (λ p. record { items = p.0; room = p.1.0; pushed = p.1.1 }) (λ _. refl)

abbrev pub market_code : Coded MarketState
market_code = code_by (VenueState × (Store × Shelf))
    (coded× venue_code (coded× store_code shelf_code))
    (λ m. (m.venue, (m.store, m.shelf)))
    (λ p. record { venue = p.0; store = p.1.0; shelf = p.1.1 }) (λ _. refl)

-- venue, store and shelf have one journal, whichever it is
pub record HasSome (market : MarketState) : Type 0 where
  pub journal : Journal
  pub has : MarketHas market journal
