-- The places where a replay keeps the worlds of its units.
use Rattle.std.specs.Prelude.{◌≡◌, ℕ, ◌<◌, List, [], ◌∷◌, ◌++◌, length, reverse, Option, None, Some}
use Rattle.std.specs.Prelude.{Ok, slice_get}
use Rattle.pitch_text.specs.declared.verb.ScheduleEntry.{ScheduleEntry}
use Rattle.pitch_text.specs.declared.verb.Verb.{Verb}
use Rattle.world_model.specs.Stands.{WorldStands}
use Rattle.world_model.specs.declared.limits.Limits.{Limits}
use Rattle.world_model.specs.declared.world.World.{World}
use Rattle.schedule_replay.specs.Replay.{verbs_of, replay_text, schedule_of}
use Rattle.schedule_replay.specs.Worlds.{IsNamed, IsWorldOf, AreRunThrough}

-- worlds that were run through a schedule were put at the end of a list
pub record AddsWorlds (text : List ℕ) (old new : List World) : Type 0 where
  pub added : List World
  pub appended : new ≡ old ++ added
  pub run : AreRunThrough text added

-- ---- The places of the worlds while lines are done

-- a unit's place, in which a world stands exactly where a line names the unit
abbrev pub IsPlace : List ScheduleEntry → ℕ → Option World → Type 0
IsPlace before unit None = verbs_of unit before ≡ []
IsPlace before unit (Some world) = IsWorldOf before unit world

-- a place in which a world stands for these verbs
abbrev pub IsReady : ℕ → Limits → List Verb → Option World → Type 0
IsReady unit limits done None = ⊥
IsReady unit limits done (Some world) = WorldStands world unit limits done

-- each unit has its place, at its number
pub record ArePlaces (before : List ScheduleEntry) (places : List (Option World)) : Type 0 where
  pub many : length places ≡ 65
  pub low : (unit : ℕ) → IsNamed before unit → unit < 65
  pub each : (unit : ℕ) (place : Option World)
      → slice_get places unit ≡ Some place → IsPlace before unit place

-- the worlds that stand in some places
abbrev pub worlds_in : List (Option World) → List World
worlds_in [] = []
worlds_in (None ∷ places) = worlds_in places
worlds_in (Some world ∷ places) = world ∷ worlds_in places

-- the lines of a text were done, and what they write was put at the end
pub record RunsText (text : List ℕ) (places : List (Option World)) (old new : List ℕ) : Type 0 where
  pub entries : List ScheduleEntry
  pub read : schedule_of text ≡ Ok entries
  pub are : ArePlaces (reverse entries) places
  pub written : new ≡ old ++ replay_text entries
