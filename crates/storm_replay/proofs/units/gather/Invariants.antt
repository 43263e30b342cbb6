use Rattle.storm_replay.specs.layers.Units.{AreGathered}
use Rattle.storm_replay.proofs.units.gather.Given as goal

abbrev pub invariant-pieces : goal.invariant-pieces
invariant-pieces l = AreGathered l.yielded l.worlds.items
