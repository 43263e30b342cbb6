-- The units of a text run apart, and what they write put together again.
use Rattle.std.specs.Prelude.{◌≡◌, ℕ, ◌+◌, ◌<◌, ◌==◌, Bool, true, false, List, [], ◌∷◌, ◌++◌}
use Rattle.std.specs.Prelude.{length, take, drop, reverse, Option, None, Some, Result, Ok, Err}
use Rattle.std.specs.Prelude.{slice_get, if◌then◌else◌}
use Rattle.std.specs.Global.{Vec}
use Rattle.std.specs.List.{AllByRecursion}
use Rattle.feed_lines.specs.Texts.{texts_after}
use Rattle.pitch_text.specs.declared.verb.ScheduleEntry.{ScheduleEntry}
use Rattle.text_lines.specs.declared.fault.TextError.{TextError}
use Rattle.world_model.specs.declared.world.World.{World}
use Rattle.schedule_replay.specs.layers.Merging.{first_piece}
use Rattle.schedule_replay.specs.Replay.{replay_line}
use Rattle.schedule_replay.specs.layers.Stretches.{AreListed, Owned, StretchPart, list_at, parts_of}
use Rattle.schedule_replay.specs.layers.Places.{IsPlace}
use Rattle.schedule_replay.specs.declared.stretches.Stretch.{Stretch}
use Rattle.schedule_replay.specs.declared.merging.Unmerged.{Unmerged}
use Rattle.schedule_replay.specs.declared.units.UnitRun.{UnitRun}

-- an entry that stands so many lines later
abbrev pub later : ℕ → ScheduleEntry → ScheduleEntry
later lines entry = record entry { line = entry.line + lines }

-- ---- What some lines say

-- the entries among some items
abbrev pub entries_among : List (Result ScheduleEntry TextError) → List ScheduleEntry
entries_among [] = []
entries_among (Ok entry ∷ items) = entry ∷ entries_among items
entries_among (Err fault ∷ items) = entries_among items

-- the items of lines that have no fault
abbrev pub without_fault : List ScheduleEntry → List (Result ScheduleEntry TextError)
without_fault [] = []
without_fault (entry ∷ entries) = Ok entry ∷ without_fault entries

-- some lines have no fault, and all are of this unit
pub record AreOf (unit : ℕ) (items : List (Result ScheduleEntry TextError)) : Type 0 where
  pub good : items ≡ without_fault (entries_among items)
  pub own : AllByRecursion (λ e. e.unit ≡ unit) (entries_among items)

-- so are the lines of each part that is taken to be of this unit
abbrev pub ArePartsOf : ℕ → List StretchPart → Type 0
ArePartsOf unit [] = Unit {0}
ArePartsOf unit (p ∷ parts) = (p.unit ≡ unit → AreOf unit p.items) × ArePartsOf unit parts

-- the entries of the parts of a unit
abbrev pub part_entries : ℕ → List StretchPart → List ScheduleEntry
part_entries unit [] = []
part_entries unit (p ∷ parts) =
    if p.unit == unit then entries_among p.items ++ part_entries unit parts
    else part_entries unit parts

-- what each part of a unit writes, after other lines of the unit
abbrev pub part_texts : ℕ → List ScheduleEntry → List StretchPart → List (List ℕ)
part_texts unit before [] = []
part_texts unit before (p ∷ parts) =
    if p.unit == unit then texts_after replay_line before (entries_among p.items)
    ∷ part_texts unit (reverse (entries_among p.items) ++ before) parts
    else part_texts unit before parts

-- ---- A unit's run

-- the lines of some bytes have no fault and are all of this unit; they were done, and what they
-- write was put at the end of a text
pub record RunsLines (unit : ℕ) (items : List (Result ScheduleEntry TextError))
    (before : List ScheduleEntry) (place : Option World) (old new : List ℕ) : Type 0 where
  pub are : AreOf unit items
  pub done : IsPlace (reverse (entries_among items) ++ before) unit place
  pub written : new ≡ old ++ texts_after replay_line before (entries_among items)

-- texts that stand end to end, cut by their lengths
abbrev pub cut_by : List ℕ → List ℕ → List (List ℕ)
cut_by [] text = []
cut_by (n ∷ lengths) text = take n text ∷ cut_by lengths (drop n text)

-- lengths, added up
abbrev pub lengths_total : List ℕ → ℕ
lengths_total [] = 0
lengths_total (n ∷ lengths) = n + lengths_total lengths

-- the lines of a unit were done, part by part
pub record Ran (parts : List StretchPart) (run : UnitRun) : Type 0 where
  pub are : ArePartsOf run.unit parts
  pub done : IsPlace (reverse (part_entries run.unit parts)) run.unit run.world
  pub texts : cut_by run.lengths.items run.text.items ≡ part_texts run.unit [] parts
  pub whole : lengths_total run.lengths.items ≡ length run.text.items

-- runs of units by their lists: whatever the stretches of the text are, the runs are of its parts
abbrev pub AreRun : List ℕ → List (Vec Stretch) → List UnitRun → Type 0
AreRun text lists runs =
    (all : List Owned) → AreListed all lists → AllByRecursion (Ran (parts_of text all)) runs

-- ---- Put together

-- what is left of a unit's texts
abbrev pub left_pieces : Unmerged → List (List ℕ)
left_pieces left = cut_by (drop left.next left.lengths.items) (drop left.at left.text.items)

abbrev pub pieces_on : Option Unmerged → List (List ℕ)
pieces_on None = []
pieces_on (Some left) = left_pieces left

-- what is left of each unit's texts, which stand at the unit's place
abbrev pub pieces_at : List Unmerged → ℕ → List (List ℕ)
pieces_at lefts unit = pieces_on (slice_get lefts unit)

-- the texts of units in the order of some stretches, of which it is said whose they are: at each
-- the next text of its unit
abbrev pub put_together : (ℕ → List (List ℕ)) → List ℕ → List ℕ
put_together pieces [] = []
put_together pieces (whose ∷ order) =
    first_piece (pieces whose)
    ++ put_together (λ unit. if whose == unit then drop 1 (pieces unit) else pieces unit) order

-- the run of a unit stands at its place: where a world does, all that was said of the run is so
pub record IsRunAt (parts : List StretchPart) (unit : ℕ) (world : World) (pieces : List (List ℕ)) :
    Type 0 where
  pub are : ArePartsOf unit parts
  pub done : IsPlace (reverse (part_entries unit parts)) unit (Some world)
  pub texts : pieces ≡ part_texts unit [] parts

pub record AreRunsAt (parts : List StretchPart)
    (places : List (Option World)) (lefts : List Unmerged) : Type 0 where
  pub many : length places ≡ 65
  pub texts : length lefts ≡ 65
  pub each : (unit : ℕ) (world : World)
      → slice_get places unit ≡ Some (Some world) → IsRunAt parts unit world (pieces_at lefts unit)

-- whether a world stands at a unit's place
abbrev pub is_filled : Option (Option World) → Bool
is_filled None = false
is_filled (Some None) = false
is_filled (Some (Some world)) = true

abbrev pub has_world : List (Option World) → ℕ → Bool
has_world places unit = is_filled (slice_get places unit)

-- a world stands at the place of each unit that has a stretch
abbrev pub AreFilled : List (Vec Stretch) → List (Option World) → Type 0
AreFilled lists places = (unit : ℕ) → 0 < length (list_at lists unit) → has_world places unit ≡ true
