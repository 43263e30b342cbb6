use Rattle.std.proofs.Common.{◌≡◌}
use Rattle.storm_replay.specs.layers.Units.{counting}
use Rattle.storm_replay.proofs.units.all_units.Given as goal

abbrev pub invariant-units : goal.invariant-units
invariant-units l = l.all.items ≡ counting 1 l.index
