use Rattle.std.proofs.Common.{◌≡◌, List, ◌++◌}
use Rattle.pitch_text.specs.declared.verb.ScheduleEntry.{ScheduleEntry}
use Rattle.storm_replay.specs.Summary.{ended_lines}
use Rattle.storm_replay.specs.layers.Running.{AreInTurn}
use Rattle.storm_replay.proofs.running.append_worlds.Given as goal

abbrev pub invariant-units : goal.invariant-units
invariant-units l = (before : List ScheduleEntry) → AreInTurn before l.worlds → l.out.items ≡ l.fn.out.items ++ ended_lines before l.index
