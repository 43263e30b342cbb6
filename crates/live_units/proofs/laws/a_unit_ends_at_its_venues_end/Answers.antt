use Rattle.live_units.proofs.Ends.{ends_are_venues}
use Rattle.live_units.proofs.laws.a_unit_ends_at_its_venues_end.Goals as goal

pub returns : goal.returns
returns c = ends_are_venues
