-- What became of the units of a storm. Entries that came before stand newest first, as the verbs of
-- a world do.
use Rattle.std.specs.Prelude.{ℕ, zero, suc, List, [], ◌++◌, map, reverse}
use Rattle.std.specs.List.{enumerate_from}
use Rattle.std.specs.FinMap.{len}
use Rattle.pitch_text.specs.ScheduleGrammar.{schedule_entry}
use Rattle.pitch_text.specs.declared.verb.ScheduleEntry.{ScheduleEntry}
use Rattle.pitch_model.specs.Levels.{shares}
use Rattle.pitch_model.specs.Status.{status_of}
use Rattle.feed_lines.specs.UnitLine.{unit_line}
use Rattle.world_model.specs.State.{State}
use Rattle.world_model.specs.Verbs.{state_of, client_book}
use Rattle.world_model.specs.declared.limits.Limits.{Limits}
use Rattle.schedule_replay.specs.Replay.{verbs_of, limits_of}
use Rattle.storm_replay.specs.Storm.{storm_entries}
use Rattle.storm_replay.specs.StormText.{storm_line}

-- the lines of a storm's schedule, numbered from 1
abbrev pub storm_lines : ℕ → ℕ → ℕ → List ScheduleEntry
storm_lines number units steps =
    map schedule_entry (enumerate_from 1 (storm_entries number units steps))

-- the line of a unit whose client is in this state: its status, and the orders and the shares of
-- its book
unfoldable pub state_line : ℕ → Limits → State → List ℕ
state_line unit limits s =
    unit_line unit (status_of limits.hold s.client.heard)
    (len (client_book limits s).orders) (shares (client_book limits s))

-- the line of a unit after some lines of a schedule: what it says is so in the unit's world
abbrev pub ended_line : List ScheduleEntry → ℕ → List ℕ
ended_line before unit =
    let done = verbs_of unit before in
    state_line unit (limits_of done) (state_of unit (limits_of done) done)

-- the lines of the first units
unfoldable pub ended_lines : List ScheduleEntry → ℕ → List ℕ
ended_lines before zero = []
ended_lines before (suc unit) = ended_lines before unit ++ ended_line before (suc unit)

-- the summary of a storm: what it was made of, and each unit after all lines of the schedule
abbrev pub storm_text : ℕ → ℕ → ℕ → List ℕ
storm_text number units steps =
    storm_line number units steps ++ ended_lines (reverse (storm_lines number units steps)) units
