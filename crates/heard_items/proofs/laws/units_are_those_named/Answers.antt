use Rattle.heard_items.proofs.Units.{units_rise, member-units_of}
use Rattle.heard_items.proofs.laws.units_are_those_named.Goals as goal

pub returns-clause-rise : goal.returns-clause-rise
returns-clause-rise c = units_rise

pub returns-clause-named : goal.returns-clause-named
returns-clause-named c = member-units_of
