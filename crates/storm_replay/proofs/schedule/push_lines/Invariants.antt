use Rattle.std.proofs.Common.{◌≡◌, ◌++◌, take}
use Rattle.storm_replay.specs.Storm.{entries_for}
use Rattle.pitch_text.specs.Printing.{lines_text}
use Rattle.storm_replay.proofs.schedule.push_lines.Given as goal

abbrev pub invariant-verbs : goal.invariant-verbs
invariant-verbs l = l.text.items ≡ l.fn.text.items ++ lines_text (entries_for l.unit (take l.verb-index l.verbs))
