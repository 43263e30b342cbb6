-- The messages that the units accepted are bytes, each with a sequence.
use Rattle.std.proofs.Common.{List, [], arith, inl, inr}
use Rattle.std.proofs.lemmas.Option.{slice_get_cases, slice_get_within}
use Rattle.venue_end.specs.declared.setup.VenueSetup.{VenueSetup}
use Rattle.venue_units.specs.Coming.{UnitCame}
use Rattle.venue_units.specs.Units.{UnitsStand}
use Rattle.venue_units.specs.declared.units.VenueUnits.{VenueUnits}
use Rattle.live_venue.specs.Serving.{AreFeeds}

-- nothing was accepted yet
pub feeds_at_first : (s : List VenueSetup) → AreFeeds s []
feeds_at_first s at setup there = record { bytes = tt; top = omega arith }

-- the end of each unit keeps it so
pub feeds_of : (s : List VenueSetup) (u : VenueUnits) (came : List UnitCame) → UnitsStand s u came → AreFeeds s came
feeds_of s u came stand at setup there = elim (slice_get_cases u.ends.items at).1 [
  | inl (end, within, is, same) ↦
      let has = (stand.each at setup end there is).market.venue in
      record { bytes = has.bytes; top = has.few }
  | inr (le, none) ↦
      let within = slice_get_within s at setup there in
      let many = stand.many in
      absurd (omega (arith, le, within, many))
]
