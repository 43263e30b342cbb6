use Rattle.std.proofs.Common.{◌≡◌, ◌++◌}
use Rattle.storm_replay.specs.Storm.{storm_steps}
use Rattle.pitch_text.specs.Printing.{lines_text}
use Rattle.storm_replay.proofs.schedule.push_steps.Given as goal

abbrev pub invariant-steps : goal.invariant-steps
invariant-steps l = l.text.items ≡ l.fn.text.items ++ lines_text (storm_steps l.storm.number l.storm.units l.index)
