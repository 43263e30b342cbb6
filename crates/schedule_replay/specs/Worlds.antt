-- The worlds of the units that a schedule names. Entries stand newest first.
use Rattle.std.specs.Prelude.{◌≡◌, ℕ, ◌<◌, true, nat_eq, List, [], ◌∷◌, length, reverse, Ok}
use Rattle.std.specs.List.Sorted.{IsStrictlyIncreasing}
use Rattle.std.specs.Set.{is_member}
use Rattle.pitch_text.specs.declared.verb.ScheduleEntry.{ScheduleEntry}
use Rattle.world_model.specs.Stands.{WorldStands}
use Rattle.world_model.specs.declared.world.World.{World}
use Rattle.schedule_replay.specs.Replay.{verbs_of, limits_of, schedule_of}

-- a line names the unit
abbrev pub IsNamed : List ScheduleEntry → ℕ → Type 0
IsNamed before unit = 0 < length (verbs_of unit before)

-- the world of a unit that the lines name: all that they do with the unit was done in it, by the
-- unit's limits
abbrev pub IsWorldOf : List ScheduleEntry → ℕ → World → Type 0
IsWorldOf before unit world = IsNamed before unit
    × WorldStands world unit (limits_of (verbs_of unit before)) (verbs_of unit before)

-- the worlds of these units, one each
abbrev pub AreWorldsOf : List ScheduleEntry → List ℕ → List World → Type 0
AreWorldsOf before [] [] = Unit {0}
AreWorldsOf before (unit ∷ units) (world ∷ worlds) =
    IsWorldOf before unit world × AreWorldsOf before units worlds
AreWorldsOf before _ _ = ⊥

-- the worlds of all units that the lines name, by rising unit
pub record AreAllWorlds (before : List ScheduleEntry) (worlds : List World) : Type 0 where
  pub units : List ℕ
  pub rise : IsStrictlyIncreasing units
  pub all : (unit : ℕ) → IsNamed before unit → is_member nat_eq units unit ≡ true
  pub each : AreWorldsOf before units worlds

-- worlds were run through the whole of a schedule: they are those of all units that its text names
pub record AreRunThrough (text : List ℕ) (worlds : List World) : Type 0 where
  pub entries : List ScheduleEntry
  pub read : schedule_of text ≡ Ok entries
  pub are : AreAllWorlds (reverse entries) worlds
