use Rattle.harmed_venue.proofs.Lawful.{passes_on}
use Rattle.harmed_venue.proofs.laws.a_harmless_net_passes_all_on.Goals as goal

pub returns : goal.returns
returns c = passes_on
