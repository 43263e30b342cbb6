-- What comes to one of the ends, by the answer of its call.
use Rattle.std.proofs.Common.{◌≡◌, ℕ, ◌<◌, ◌≤◌, ◌⊎◌, inl, inr, Bool, true, false, cond, List, ◌∷◌, length, refl, Result, Ok, Err, OnOk, OnErr, IfOk, get_or, slice_get}
use Rattle.pitch_model.proofs.Results.{on_ok_map, on_err_map}
use Rattle.venue_end.specs.Came.{VenueCame, VenueState, venue_after}
use Rattle.venue_end.specs.Stands.{OfVenue, StandsStill}
use Rattle.venue_end.specs.Stands as end
use Rattle.venue_end.specs.declared.setup.VenueSetup.{VenueSetup}
use Rattle.venue_end.specs.declared.venue.VenueEnd.{VenueEnd}
use Rattle.venue_units.specs.Coming.{to_unit}
use Rattle.venue_units.specs.Places.{seen_of}
use Rattle.venue_units.specs.Units.{Comes, ComesAndCuts, OfUnit, OfUnits, StandStill, UnitsStand}
use Rattle.venue_units.specs.declared.units.VenueUnits.{VenueUnits}
use Rattle.venue_units.proofs.Standing.{comes_nowhere, comes_there, cuts_there, of_unit, seen_there, still_there, with_end}

-- ---- At an end that is there
module _ (u : VenueUnits) (at unit : ℕ) (names : at ≡ unit) (e : VenueEnd) (within : at < length u.ends.items) (read : e ≡ get_or u.ends.items at e) where
  module _ {A E : Type 0} (r : Result A E) where
    pub ok_comes : (e' : VenueEnd) (came : VenueCame) → OnOk r (end.Comes e e' came) → OnOk r (Comes u (with_end u at e') unit came)
    ok_comes e' came h = on_ok_map (end.Comes e e' came) (Comes u (with_end u at e') unit came) r h (comes_there u at unit names e within read e' came)

    pub err_comes : (e' : VenueEnd) (came : VenueCame) → OnErr r (end.Comes e e' came) → OnErr r (Comes u (with_end u at e') unit came)
    err_comes e' came h = on_err_map (end.Comes e e' came) (Comes u (with_end u at e') unit came) r h (comes_there u at unit names e within read e' came)

    pub err_cuts : (e' : VenueEnd) (came : VenueCame) → OnErr r (end.ComesAndCuts e e' came) → OnErr r (ComesAndCuts u (with_end u at e') unit came)
    err_cuts e' came h = on_err_map (end.ComesAndCuts e e' came) (ComesAndCuts u (with_end u at e') unit came) r h (cuts_there u at unit names e within read e' came)

    pub err_still : (e' : VenueEnd) → OnErr r (StandsStill e e') → OnErr r (StandStill u (with_end u at e'))
    err_still e' h = on_err_map (StandsStill e e') (StandStill u (with_end u at e')) r h (still_there u at unit names e within read e')

    pub ok_of : (P : VenueSetup → List VenueCame → Type 0) → OnOk r (OfVenue e P) → OnOk r (OfUnit u unit P)
    ok_of P h = on_ok_map (OfVenue e P) (OfUnit u unit P) r h (of_unit u at unit names e within read P)

  -- what the answer says of its end, it says of what is seen of the unit
  pub if_ok_seen : {A E : Type 0} (none : A) (seen : VenueSetup → VenueState → A) (r : Result A E) → IfOk r (λ a. OfVenue e (λ s before. a ≡ seen s (venue_after s before))) → IfOk r (λ a. OfUnits u (λ s all. a ≡ seen_of none seen unit all (slice_get s unit)))
  if_ok_seen none seen (Ok a) h = seen_there u at unit names e within read none seen (λ b. a ≡ b) h
  if_ok_seen none seen (Err error) h = tt

  -- it stands still, or something comes to it and all its sessions are cut
  pub still_or_cut : (e' : VenueEnd) (came : VenueCame) → StandsStill e e' ⊎ end.ComesAndCuts e e' came → StandStill u (with_end u at e') ⊎ ComesAndCuts u (with_end u at e') unit came
  still_or_cut e' came (inl still) = inl (still_there u at unit names e within read e' still)
  still_or_cut e' came (inr comes) = inr (cuts_there u at unit names e within read e' came comes)

  -- something comes to it, or nothing does
  pub comes_or_not : (e' : VenueEnd) (came : VenueCame) (b : Bool) → (b ≡ true → end.Comes e e' came) → (b ≡ false → StandsStill e e') → OfUnits u (λ s all. UnitsStand s (with_end u at e') (cond b (to_unit unit came ∷ all) all))
  comes_or_not e' came true comes still = comes_there u at unit names e within read e' came (comes refl)
  comes_or_not e' came false comes still = still_there u at unit names e within read e' (still refl)

-- ---- Where there is no such unit
pub none_comes : (u : VenueUnits) (at unit : ℕ) (names : at ≡ unit) (past : length u.ends.items ≤ at) (came : VenueCame) (b : Bool) → OfUnits u (λ s all. UnitsStand s (record { ends = u.ends }) (cond b (to_unit unit came ∷ all) all))
none_comes u at unit names past came true = comes_nowhere u at unit names past came
none_comes u at unit names past came false = λ s all st. record { many = st.many; each = st.each }
