use Rattle.std.proofs.Common.{take}
use Rattle.storm_replay.specs.layers.Units.{AreUnitsDone}
use Rattle.storm_replay.proofs.units.run_piece.Given as goal

abbrev pub invariant-units : goal.invariant-units
invariant-units g l = AreUnitsDone l.number l.steps (take l.unit-index l.units) l.worlds.items
