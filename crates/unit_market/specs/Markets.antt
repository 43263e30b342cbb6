-- What a market stands for ("Gap Request Proxy", "Spin Servers").
use Rattle.std.specs.Prelude.{◌≡◌, ℕ, List}
use Rattle.gap_store.specs.Look.{View, store_of}
use Rattle.pitch_model.specs.Advertising.{Operation, accepted_by, advertised_by}
use Rattle.pitch_model.specs.History.{Raw}
use Rattle.spin_server.specs.Shelves.{Shelf}
use Rattle.spin_server.specs.Stands.{ShelfStands}
use Rattle.venue_core.specs.Stands.{Stands}
use Rattle.unit_market.specs.Standing.{MarketState}

-- a shelf has these messages, and these sequences were advertised
pub record KeepsShelf (shelf : Shelf) (accepted : List Raw) (advertised : List ℕ) : Type 0 where
  pub operations : List Operation
  pub accepted_is : accepted_by operations ≡ accepted
  pub advertised_is : advertised_by operations ≡ advertised
  pub stands : ShelfStands shelf operations

-- what a market stands for: its unit; how many of the last messages its proxy keeps; the messages
-- that it accepted, and how many of them it sent; and the sequences that it advertised
pub record Journal : Type 0 where
  pub unit : ℕ
  pub kept : ℕ
  pub messages : List Raw
  pub sent : ℕ
  pub advertised : List ℕ

-- the last of its messages, which the proxy looks up
abbrev pub kept_view : Journal → View
kept_view j = record { messages = j.messages; kept = j.kept }

-- a market has a journal: its venue, its store and its shelf have the messages of that
pub record MarketHas (market : MarketState) (j : Journal) : Type 0 where
  pub unit_is : market.venue.unit ≡ j.unit
  pub venue : Stands market.venue j.messages j.sent
  pub store_is : market.store ≡ store_of (kept_view j)
  pub shelf : KeepsShelf market.shelf j.messages j.advertised
