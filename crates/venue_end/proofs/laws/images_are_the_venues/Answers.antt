use Rattle.venue_end.proofs.Shown.{images_are_the_venues}
use Rattle.venue_end.proofs.laws.images_are_the_venues.Goals as goal

pub returns : goal.returns
returns c = images_are_the_venues
