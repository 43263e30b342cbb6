use Rattle.live_units.proofs.Taking.{none_fails}
use Rattle.live_units.proofs.place.second_at.Goals as goal

pub returns-in-Some-clause-none : goal.returns-in-Some-clause-none
returns-in-Some-clause-none c = none_fails c.args.place.now _ c.in-Some.is c.second.result c.second.ensures.none
