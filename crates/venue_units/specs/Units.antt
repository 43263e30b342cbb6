-- The ends of all units of a venue, and what came to them.
use Rattle.std.specs.Prelude.{◌≡◌, ◌≤◌, ℕ, List, ◌∷◌, Option, None, Some, length, slice_get}
use Rattle.std.specs.List.{AllByRecursion}
use Rattle.pitch_fields.specs.Limits.{most_held}
use Rattle.venue_end.specs.Came.{VenueCame, AllCut}
use Rattle.venue_end.specs.Stands.{VenueStands}
use Rattle.venue_end.specs.declared.setup.VenueSetup.{VenueSetup}
use Rattle.venue_end.specs.declared.venue.VenueEnd.{VenueEnd}
use Rattle.venue_units.specs.Coming.{UnitCame, came_to, to_unit}
use Rattle.venue_units.specs.declared.units.VenueUnits.{VenueUnits}

-- each proxy keeps at least 1 message and at most 65,536
abbrev pub EachKeeps : List VenueSetup → Type 0
EachKeeps s = AllByRecursion (λ setup. (1 ≤ setup.kept) × (setup.kept ≤ most_held)) s

-- there are as many ends as setups, and each stands for its setup and all that came to it
pub record UnitsStand (s : List VenueSetup) (u : VenueUnits) (came : List UnitCame) : Type 0 where
  pub many : length u.ends.items ≡ length s
  pub each : (at : ℕ) (setup : VenueSetup) (end : VenueEnd) → slice_get s at ≡ Some setup
      → slice_get u.ends.items at ≡ Some end → VenueStands setup end (came_to at came)

-- this is the end of a unit that was set up so, for all that came to it; there is none where there
-- is no such unit
abbrev pub IsEndOf : Option VenueSetup → List VenueCame → Option VenueEnd → Type 0
IsEndOf None came end = end ≡ None
IsEndOf (Some setup) came None = ⊥
IsEndOf (Some setup) came (Some end) = VenueStands setup end came

-- ---- In the words of their contracts
-- P holds of the setups and all that came for which they stand
abbrev pub OfUnits : VenueUnits → (List VenueSetup → List UnitCame → Type 0) → Type 0
OfUnits u P = (s : List VenueSetup) (came : List UnitCame) → UnitsStand s u came → P s came

-- and of the setup of one unit and all that came to it
abbrev pub OfUnit : VenueUnits → ℕ → (VenueSetup → List VenueCame → Type 0) → Type 0
OfUnit u at P = (s : List VenueSetup) (came : List UnitCame) (setup : VenueSetup)
    → UnitsStand s u came → slice_get s at ≡ Some setup → P setup (came_to at came)

-- this holds where there is no such unit
abbrev pub IfNoUnit : VenueUnits → ℕ → Type 0 → Type 0
IfNoUnit u at P = OfUnits u (λ s came. slice_get s at ≡ None → P)

-- whatever came before, this came to a unit too
abbrev pub Comes : VenueUnits → VenueUnits → ℕ → VenueCame → Type 0
Comes u u' at came = OfUnits u (λ s before. UnitsStand s u' (to_unit at came ∷ before))

-- this came to a unit, and then all sessions of the unit were cut
abbrev pub ComesAndCuts : VenueUnits → VenueUnits → ℕ → VenueCame → Type 0
ComesAndCuts u u' at came =
    OfUnits u (λ s before. UnitsStand s u' (to_unit at AllCut ∷ to_unit at came ∷ before))

-- they stand for what they stood for
abbrev pub StandStill : VenueUnits → VenueUnits → Type 0
StandStill u u' = OfUnits u (λ s before. UnitsStand s u' before)
