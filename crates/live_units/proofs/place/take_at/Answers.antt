use Rattle.live_units.proofs.Taking.{none_lost}
use Rattle.live_units.proofs.place.take_at.Goals as goal

pub returns-in-Some-clause-none : goal.returns-in-Some-clause-none
returns-in-Some-clause-none g c = none_lost c.args.place.now _ c.in-Some.is c.args.session c.took.result c.took.ensures.none
