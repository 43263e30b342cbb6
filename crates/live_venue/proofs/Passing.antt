-- A second that passes for the units of a venue.
use Rattle.std.proofs.Common.{◌⊎◌, inl, inr, ℕ, suc, List, refl, Result, Ok, Err, OnOk, OnErr}
use Rattle.pitch_fields.specs.declared.memory.OutOfMemory.{OutOfMemory}
use Rattle.venue_end.specs.Came.{AllCut, Advertised, Second}
use Rattle.venue_end.specs.declared.setup.VenueSetup.{VenueSetup}
use Rattle.venue_units.specs.Units.{Comes, ComesAndCuts, StandStill, UnitsStand}
use Rattle.venue_units.specs.declared.units.VenueUnits.{VenueUnits}
use Rattle.live_venue.specs.Running.{Advertises, Now, Ticks, with_came}
use Rattle.live_venue.specs.Standing.{Passes, PassesFor}

module _ (s : List VenueSetup) (at : ℕ) where
  -- ---- For a unit
  ticked : (u u' : VenueUnits) (answer : Result (Unit {0}) OutOfMemory) → OnOk answer (Comes u u' at Second) → OnErr answer (ComesAndCuts u u' at Second)
      → (now : Now) → UnitsStand s u now.came → (now' : Now) × (Ticks at now now' × UnitsStand s u' now'.came)
  ticked u u' (Ok done) ok err now st = (with_came at Second now, (inl refl, ok s now.came st))
  ticked u u' (Err error) ok err now st = (with_came at AllCut (with_came at Second now), (inr refl, err s now.came st))

  still_or_cut : (u u' : VenueUnits) → StandStill u u' ⊎ ComesAndCuts u u' at Advertised
      → (now : Now) → UnitsStand s u now.came → (now' : Now) × (Advertises at now now' × UnitsStand s u' now'.came)
  still_or_cut u u' (inl still) now st = (now, (inr (inr refl), still s now.came st))
  still_or_cut u u' (inr cuts) now st = (with_came at AllCut (with_came at Advertised now), (inr (inl refl), cuts s now.came st))

  advertised : (u u' : VenueUnits) (answer : Result (Unit {0}) OutOfMemory) → OnOk answer (Comes u u' at Advertised) → OnErr answer (StandStill u u' ⊎ ComesAndCuts u u' at Advertised)
      → (now : Now) → UnitsStand s u now.came → (now' : Now) × (Advertises at now now' × UnitsStand s u' now'.came)
  advertised u u' (Ok done) ok err now st = (with_came at Advertised now, (inl refl, ok s now.came st))
  advertised u u' (Err error) ok err now st = still_or_cut u u' err now st

  pub passes_for : (u between u' : VenueUnits) (ticks advertises : Result (Unit {0}) OutOfMemory) → OnOk ticks (Comes u between at Second) → OnErr ticks (ComesAndCuts u between at Second)
      → OnOk advertises (Comes between u' at Advertised) → OnErr advertises (StandStill between u' ⊎ ComesAndCuts between u' at Advertised) → PassesFor s at u u'
  passes_for u between u' ticks advertises ok err ok' err' now st =
      let tick = ticked u between ticks ok err now st in
      let advertise = advertised between u' advertises ok' err' tick.0 tick.1.1 in
      (tick.0, (advertise.0, (tick.1.0, (advertise.1.0, advertise.1.1))))

-- ---- For each of the units below an index
module _ (s : List VenueSetup) where
  pub passes_none : (u : VenueUnits) → Passes s 0 u u
  passes_none u now st = (now, (refl, st))

  pub passes_more : (at : ℕ) (u between u' : VenueUnits) → Passes s at u between → PassesFor s at between u' → Passes s (suc at) u u'
  passes_more at u between u' passes next now st =
      let before = passes now st in
      let after = next before.0 before.1.1 in
      (after.1.0, ((before.0, (before.1.0, (after.0, (after.1.1.0, after.1.1.1.0)))), after.1.1.1.1))
