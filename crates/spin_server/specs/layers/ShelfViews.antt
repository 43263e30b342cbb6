-- What a shelf shows to look-ups.
use Rattle.std.specs.Prelude.{◌≡◌, ℕ, ◌-◌, length, List, replicate}
use Rattle.pitch_model.specs.Advertising.{Operation, accepted_by, advertised_by, last_ten}
use Rattle.session_ends.specs.layers.Hearings.{Rises}
use Rattle.spin_server.specs.Served.{Served}
use Rattle.spin_server.specs.layers.Looking.{ServedLater}
use Rattle.spin_server.specs.Shelves.{Shelf, ShelfKeeps, first_or}

-- how many messages come after the oldest sequence that is served; none where none is
abbrev pub retained : List Operation → ℕ
retained operations = length (accepted_by operations)
    - first_or (length (accepted_by operations)) (last_ten (advertised_by operations))

-- what can be seen of a shelf: of the sequences those that are served
pub record ShelfShows (shelf : Shelf) (v : Served) : Type 0 where
  pub keeps : ShelfKeeps shelf v.messages
  pub advertised_is : v.advertised ≡ shelf.served

-- ---- Laws
-- the view of what was pushed and advertised
abbrev pub seen_of : List Operation → Served
seen_of operations =
    record { messages = accepted_by operations; advertised = last_ten (advertised_by operations) }

-- a view that comes later is the same while the shelf is
abbrev pub OneServed : Type 0
OneServed = (shelf : Shelf) (view now : Served)
    → ShelfShows shelf view → ShelfShows shelf now → ServedLater view now → now ≡ view

-- and all views at which a piece is answered are one
abbrev pub ShelfHasOneView : Type 0
ShelfHasOneView = (shelf : Shelf) (view now : Served) (views : List Served)
    → ShelfShows shelf view → ShelfShows shelf now → Rises ServedLater view views now
    → (now ≡ view) × (views ≡ replicate (length views) view)
