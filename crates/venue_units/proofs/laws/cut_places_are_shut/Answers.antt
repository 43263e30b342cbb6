use Rattle.venue_units.proofs.Cutting.{cut_places_are_shut}
use Rattle.venue_units.proofs.laws.cut_places_are_shut.Goals as goal

pub returns : goal.returns
returns c = cut_places_are_shut
