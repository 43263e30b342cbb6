use Rattle.std.proofs.Common.{◌≡◌, ◌++◌}
use Rattle.storm_replay.specs.layers.Parts.{part_by_each}
use Rattle.pitch_text.specs.Printing.{lines_text}
use Rattle.storm_replay.proofs.schedule.push_units.Given as goal

abbrev pub invariant-units : goal.invariant-units
invariant-units l = l.text.items ≡ l.fn.text.items ++ lines_text (part_by_each l.storm.number l.index l.part)
