use Rattle.harmed_venue.proofs.Losing.{loses_nothing}
use Rattle.harmed_venue.proofs.laws.nothing_else_is_lost.Goals as goal

pub returns : goal.returns
returns c = loses_nothing
