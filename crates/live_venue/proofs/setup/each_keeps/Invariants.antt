use Rattle.std.proofs.Common.{take}
use Rattle.venue_units.specs.Units.{EachKeeps}
use Rattle.live_venue.proofs.setup.each_keeps.Given as goal

abbrev pub invariant-setups : goal.invariant-setups
invariant-setups l = EachKeeps (take l.setup-index l.units)
