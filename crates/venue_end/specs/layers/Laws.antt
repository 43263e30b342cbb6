-- What holds of all that comes to a venue's end.
use Rattle.std.specs.List.{AllByRecursion}
use Rattle.std.specs.Prelude.{List}
use Rattle.spin_server.specs.Served.{Served}
use Rattle.spin_path.specs.Paths.{MayServe}
use Rattle.pitch_model.specs.History.{Raw}
use Rattle.venue_end.specs.Came.{VenueCame, venue_after}
use Rattle.venue_end.specs.Sessions.{Session}
use Rattle.venue_end.specs.declared.setup.VenueSetup.{VenueSetup}

-- the Spin Server of a session saw the first of these messages and no sequence past them, and was
-- told of none past them
abbrev pub IsShownTo : List Raw → Session (List Served) → Type 0
IsShownTo V session = AllByRecursion (MayServe V) session.happened

-- whatever came, every Spin Server saw the venue's messages alone, and no sequence past them
abbrev pub ImagesAreTheVenues : Type 0
ImagesAreTheVenues = (s : VenueSetup) (before : List VenueCame)
    → AllByRecursion (IsShownTo (venue_after s before).messages) (venue_after s before).spins
