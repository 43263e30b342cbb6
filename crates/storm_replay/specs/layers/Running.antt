-- The worlds of a storm that was run.
use Rattle.std.specs.Prelude.{◌≡◌, ℕ, ◌+◌, List, length, reverse, Some, slice_get}
use Rattle.pitch_text.specs.declared.verb.ScheduleEntry.{ScheduleEntry}
use Rattle.world_model.specs.declared.world.World.{World}
use Rattle.schedule_replay.specs.Worlds.{IsWorldOf}
use Rattle.storm_replay.specs.Summary.{storm_lines}

-- each world is that of its unit after some lines: they stand by rising unit, from 1 on
abbrev pub AreInTurn : List ScheduleEntry → List World → Type 0
AreInTurn before worlds =
    (index : ℕ) (world : World)
    → slice_get worlds index ≡ Some world → IsWorldOf before (index + 1) world

-- the worlds of a storm's units after all lines of its schedule
pub record AreStormWorlds (number units steps : ℕ) (worlds : List World) : Type 0 where
  pub many : length worlds ≡ units
  pub each : AreInTurn (reverse (storm_lines number units steps)) worlds
