-- What is known of a market. Callers need what it stands for (`MarketHas`) alone: the fields are
-- here because that is said of them.
use Rattle.gap_store.specs.Look.{Store}
use Rattle.spin_server.specs.Shelves.{Shelf}
use Rattle.venue_core.specs.Standing.{VenueState}

-- the venue; the messages that the proxy looks up; and the images that the Spin Server looks up
pub record MarketState : Type 0 where
  pub venue : VenueState
  pub store : Store
  pub shelf : Shelf
