-- What a market has after a message, a flush and an advertising.
use Rattle.std.proofs.Common.{◌≡◌, ℕ, List, [], ◌∷◌, ◌++◌, length, ap, ◌∙◌}
use Rattle.std.proofs.lemmas.List.{append-nil}
use Rattle.pitch_model.proofs.Advertising.{accepted_more, advertised_accept, advertised_advertise}
use Rattle.pitch_model.specs.Advertising.{Operation, Accept, Advertise, accepted_by, advertised_by, with_sequence}
use Rattle.pitch_model.specs.History.{Raw}
use Rattle.gap_store.specs.Look.{View, Store, store_of}
use Rattle.spin_server.specs.Shelves.{Shelf}
use Rattle.spin_server.specs.layers.ShelfViews.{seen_of}
use Rattle.spin_server.specs.Stands.{ShelfStands}
use Rattle.venue_core.specs.Standing.{VenueState}
use Rattle.venue_core.specs.Stands.{Stands}
use Rattle.unit_market.specs.Markets.{Journal, KeepsShelf, MarketHas, kept_view}
use Rattle.unit_market.specs.Views.{image_view}
use Rattle.unit_market.specs.Standing.{MarketState}

-- ---- The shelf
shelf_accepted : (old new : Shelf) (messages : List Raw) (advertised : List ℕ) (raw : Raw) → KeepsShelf old messages advertised → ((operations : List Operation) → ShelfStands old operations → ShelfStands new (operations ++ Accept raw ∷ []))
    → KeepsShelf new (messages ++ raw ∷ []) advertised
shelf_accepted old new messages advertised raw keeps pushes = record {
  operations = keeps.operations ++ Accept raw ∷ [];
  accepted_is = accepted_more keeps.operations (Accept raw) ∙ ap (λ (rs : List Raw). rs ++ raw ∷ []) keeps.accepted_is;
  advertised_is = advertised_accept keeps.operations raw ∙ keeps.advertised_is;
  stands = pushes keeps.operations keeps.stands;
}

shelf_advertised : (old new : Shelf) (messages : List Raw) (advertised : List ℕ) → KeepsShelf old messages advertised → ((operations : List Operation) → ShelfStands old operations → ShelfStands new (operations ++ Advertise ∷ []))
    → KeepsShelf new messages (with_sequence advertised (length messages))
shelf_advertised old new messages advertised keeps pushes = record {
  operations = keeps.operations ++ Advertise ∷ [];
  accepted_is = accepted_more keeps.operations Advertise ∙ append-nil (accepted_by keeps.operations) ∙ keeps.accepted_is;
  advertised_is = advertised_advertise keeps.operations ∙ ap (λ (ns : List ℕ). with_sequence ns (length (accepted_by keeps.operations))) keeps.advertised_is ∙ ap (λ (rs : List Raw). with_sequence advertised (length rs)) keeps.accepted_is;
  stands = pushes keeps.operations keeps.stands;
}

-- what it shows
pub seen_is : (shelf : Shelf) (messages : List Raw) (advertised : List ℕ) → (keeps : KeepsShelf shelf messages advertised) → seen_of keeps.operations ≡ image_view messages advertised
seen_is shelf messages advertised keeps =
    ap (λ (rs : List Raw). image_view rs (advertised_by keeps.operations)) keeps.accepted_is ∙ ap (λ (ns : List ℕ). image_view messages ns) keeps.advertised_is

-- ---- The market
abbrev market : VenueState → Store → Shelf → MarketState
market venue store shelf = record { venue = venue; store = store; shelf = shelf }

pub has_accepted : (old : MarketState) (venue : VenueState) (store : Store) (shelf : Shelf) (j : Journal) (raw : Raw) → MarketHas old j
    → venue.unit ≡ old.venue.unit → Stands venue (j.messages ++ raw ∷ []) j.sent → ((v : View) → old.store ≡ store_of v → store ≡ store_of (record { messages = v.messages ++ raw ∷ []; kept = v.kept }))
    → ((operations : List Operation) → ShelfStands old.shelf operations → ShelfStands shelf (operations ++ Accept raw ∷ [])) → MarketHas (market venue store shelf) (record j { messages = j.messages ++ raw ∷ [] })
has_accepted old venue store shelf j raw has same stands stores pushes = record {
  unit_is = same ∙ has.unit_is;
  venue = stands;
  store_is = stores (kept_view j) has.store_is;
  shelf = shelf_accepted old.shelf shelf j.messages j.advertised raw has.shelf pushes;
}

pub has_sent_all : (old : MarketState) (venue : VenueState) (j : Journal) → MarketHas old j → venue.unit ≡ old.venue.unit → Stands venue j.messages (length j.messages) → MarketHas (market venue old.store old.shelf) (record j { sent = length j.messages })
has_sent_all old venue j has same stands = record {
  unit_is = same ∙ has.unit_is;
  venue = stands;
  store_is = has.store_is;
  shelf = has.shelf;
}

pub has_advertised : (old : MarketState) (shelf : Shelf) (j : Journal) → MarketHas old j → ((operations : List Operation) → ShelfStands old.shelf operations → ShelfStands shelf (operations ++ Advertise ∷ []))
    → MarketHas (market old.venue old.store shelf) (record j { advertised = with_sequence j.advertised (length j.messages) })
has_advertised old shelf j has pushes = record {
  unit_is = has.unit_is;
  venue = has.venue;
  store_is = has.store_is;
  shelf = shelf_advertised old.shelf shelf j.messages j.advertised has.shelf pushes;
}
