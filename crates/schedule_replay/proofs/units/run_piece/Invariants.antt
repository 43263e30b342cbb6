use Rattle.schedule_replay.specs.layers.Runs.{AreRun}
use Rattle.schedule_replay.proofs.units.run_piece.Given as goal

abbrev pub invariant-units : goal.invariant-units
invariant-units g l = AreRun l.text l.lists l.runs.items
