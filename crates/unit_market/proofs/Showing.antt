-- What a shelf shows.
use Rattle.std.proofs.Common.{ℕ, List, subst}
use Rattle.pitch_model.specs.History.{Raw}
use Rattle.spin_server.specs.Shelves.{Shelf}
use Rattle.spin_server.specs.layers.ShelfViews.{ShelfShows}
use Rattle.spin_server.proofs.Shelving.{shelf_seen}
use Rattle.unit_market.specs.Markets.{KeepsShelf}
use Rattle.unit_market.specs.Views.{image_view}
use Rattle.unit_market.proofs.Having.{seen_is}

pub shows_view : (shelf : Shelf) (messages : List Raw) (advertised : List ℕ) → KeepsShelf shelf messages advertised → ShelfShows shelf (image_view messages advertised)
shows_view shelf messages advertised keeps = subst (ShelfShows shelf) (seen_is shelf messages advertised keeps) (shelf_seen shelf keeps.operations keeps.stands)
