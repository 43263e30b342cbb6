-- What comes to the units of a venue. What came stands newest first.
use Rattle.std.specs.Prelude.{ℕ, ◌==◌, List, [], ◌∷◌, if◌then◌else◌}
use Rattle.venue_end.specs.Came.{VenueCame, VenueState, venue_after}
use Rattle.venue_end.specs.declared.setup.VenueSetup.{VenueSetup}

-- this came to the end of a unit, which is named by its index in the setup
pub record UnitCame : Type 0 where
  pub at : ℕ
  pub came : VenueCame

abbrev pub to_unit : ℕ → VenueCame → UnitCame
to_unit at came = record { at = at; came = came }

-- all that came to one unit's end
abbrev pub came_to : ℕ → List UnitCame → List VenueCame
came_to at [] = []
came_to at (next ∷ before) =
    if next.at == at then next.came ∷ came_to at before else came_to at before

-- what that end stands for by then
abbrev pub state_at : VenueSetup → ℕ → List UnitCame → VenueState
state_at s at came = venue_after s (came_to at came)
