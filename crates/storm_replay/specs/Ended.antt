-- What a storm comes to, whatever was lost: the text of a drill of its number and its units, of as
-- many commands as it has steps.
use Rattle.std.specs.Prelude.{ℕ, List, ◌++◌}
use Rattle.drill_client.specs.DrillText.{drill_text}
use Rattle.storm_replay.specs.StormText.{storm_line}

-- the summary where each unit has all messages of its plan, with the orders and shares that these
-- leave: no loss stands in it
abbrev pub whole_text : ℕ → ℕ → ℕ → List ℕ
whole_text number units steps = storm_line number units steps ++ drill_text number units steps
