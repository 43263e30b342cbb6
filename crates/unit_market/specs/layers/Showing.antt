-- What a market shows to look-ups.
use Rattle.std.specs.Prelude.{◌≡◌}
use Rattle.gap_store.specs.Look.{View, store_of}
use Rattle.spin_server.specs.Served.{Served}
use Rattle.spin_server.specs.layers.ShelfViews.{ShelfShows}
use Rattle.unit_market.specs.Standing.{MarketState}

-- to those of the proxy
abbrev pub ShowsMessages : MarketState → View → Type 0
ShowsMessages market v = market.store ≡ store_of v

-- to those of the Spin Server
abbrev pub ShowsImages : MarketState → Served → Type 0
ShowsImages market v = ShelfShows market.shelf v
