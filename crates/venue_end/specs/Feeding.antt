-- How far the images of sessions are.
use Rattle.std.specs.Prelude.{◌==◌, ℕ, Bool, List, [], ◌∷◌, Option, None, Some, false}
use Rattle.std.specs.Prelude.{if◌then◌else◌}
use Rattle.session_ends.specs.Events.{Pumped}
use Rattle.spin_server.specs.Served.{Served}
use Rattle.spin_server.specs.Serving.{Serving, blocks_left, runs}
use Rattle.venue_end.specs.Servers.{spin_setup}
use Rattle.venue_end.specs.Sessions.{Session}
use Rattle.venue_end.specs.declared.setup.VenueSetup.{VenueSetup}
use Rattle.venue_end.specs.declared.table.Place.{Place}
use Rattle.venue_end.specs.declared.venue.VenueEnd.{VenueEnd}

-- a spin of a session still runs once its next block was asked for
abbrev pub runs_on : VenueSetup → Option (Session (List Served)) → Bool
runs_on s None = false
runs_on s (Some session) = runs (spin_setup s) (Pumped ∷ session.happened)

-- how many blocks of its image the session of a number has left; none where there is none
abbrev pub left_in : ℕ → List (Place Serving) → ℕ
left_in id [] = 0
left_in id (place ∷ places) =
    if place.id == id then blocks_left place.server.spin else left_in id places

abbrev pub left_at : ℕ → VenueEnd → ℕ
left_at id e = left_in id e.servers.spins.places.items
