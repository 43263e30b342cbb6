-- Units that run apart, and their pieces merged.
use Rattle.std.specs.Prelude.{◌≡◌, ℕ, ◌==◌, List, [], ◌∷◌, ◌++◌, filter, drop, if◌then◌else◌}
use Rattle.pitch_text.specs.declared.verb.ScheduleEntry.{ScheduleEntry}
use Rattle.schedule_replay.specs.Replay.{replay_line, replay_text}

-- the lines of a unit
abbrev pub own : ℕ → List ScheduleEntry → List ScheduleEntry
own unit entries = filter (λ e. e.unit == unit) entries

-- what each of some lines writes that come after others
abbrev pub pieces_after : List ScheduleEntry → List ScheduleEntry → List (List ℕ)
pieces_after before [] = []
pieces_after before (entry ∷ entries) =
    replay_line before entry ∷ pieces_after (entry ∷ before) entries

-- what each of a unit's lines writes: it takes no line of another unit to know it
abbrev pub unit_pieces : List ScheduleEntry → ℕ → List (List ℕ)
unit_pieces entries unit = pieces_after [] (own unit entries)

-- the first of some pieces
abbrev pub first_piece : List (List ℕ) → List ℕ
first_piece [] = []
first_piece (piece ∷ pieces) = piece

-- the pieces of units in the order of some lines: at each line the next piece of its unit
abbrev pub merged : (ℕ → List (List ℕ)) → List ScheduleEntry → List ℕ
merged pieces [] = []
merged pieces (entry ∷ entries) =
    first_piece (pieces entry.unit)
    ++ merged (λ unit. if entry.unit == unit then drop 1 (pieces unit) else pieces unit) entries

-- ---- Laws

-- a line writes what it writes after the lines of its own unit alone
abbrev pub LinesStandApart : Type 0
LinesStandApart = (before : List ScheduleEntry) (entry : ScheduleEntry)
    → replay_line before entry ≡ replay_line (own entry.unit before) entry

-- the lines of a schedule write what the units write, each alone, put together in the schedule's
-- order
abbrev pub UnitsRunApart : Type 0
UnitsRunApart =
    (entries : List ScheduleEntry) → replay_text entries ≡ merged (unit_pieces entries) entries
