use Rattle.harmed_venue.proofs.Lawful.{makes_nothing_up}
use Rattle.harmed_venue.proofs.laws.nothing_is_made_up.Goals as goal

pub returns : goal.returns
returns c = makes_nothing_up
