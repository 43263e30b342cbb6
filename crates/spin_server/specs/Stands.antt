-- What an image shelf stands for.
use Rattle.std.specs.Prelude.{◌≡◌, List}
use Rattle.pitch_model.specs.Advertising.{Operation, accepted_by, advertised_by, last_ten}
use Rattle.spin_server.specs.Shelves.{Shelf, ShelfKeeps}

-- a shelf stands for what was pushed and advertised: it keeps the messages, and serves the last ten
-- advertised sequences
pub record ShelfStands (shelf : Shelf) (operations : List Operation) : Type 0 where
  pub keeps : ShelfKeeps shelf (accepted_by operations)
  pub served_is : shelf.served ≡ last_ten (advertised_by operations)
