use Rattle.client_core.proofs.Venues.{own_venue}
use Rattle.client_core.proofs.laws.honest_histories_are_of_venues.Goals as goal

pub returns : goal.returns
returns c = own_venue
