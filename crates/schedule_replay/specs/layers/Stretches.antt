-- The lines of a text in stretches, and what they say.
use Rattle.std.specs.Prelude.{◌≡◌, ℕ, ◌+◌, ◌==◌, List, [], ◌∷◌, ◌++◌, take, drop, map, Option, None}
use Rattle.std.specs.Prelude.{Some, Result, slice_get, if◌then◌else◌}
use Rattle.std.specs.Global.{Vec}
use Rattle.pitch_text.specs.ScheduleGrammar.{entry, schedule_entry}
use Rattle.pitch_text.specs.declared.verb.ScheduleEntry.{ScheduleEntry}
use Rattle.text_lines.specs.Items.{items_from}
use Rattle.text_lines.specs.declared.fault.TextError.{TextError}
use Rattle.schedule_replay.specs.declared.stretches.Stretch.{Stretch}

-- what the lines of some bytes say, the first of which has this number
abbrev pub items_at : ℕ → List ℕ → List (Result ScheduleEntry TextError)
items_at n bytes = items_from entry schedule_entry n bytes

-- so many whole lines: what comes after them says the same as if it stood alone
abbrev pub AreWholeLines : ℕ → List ℕ → Type 0
AreWholeLines lines bytes =
    (n : ℕ) (after : List ℕ) → items_at n (bytes ++ after)
    ≡ items_at n bytes ++ items_at (n + lines) after

-- a text's first bytes are so many lines: the rest says the same as if it stood alone
abbrev pub Splits : ℕ → ℕ → List ℕ → Type 0
Splits lines size text =
    (n : ℕ) → items_at n text ≡ items_at n (take size text) ++ items_at (n + lines) (drop size text)

-- what the lines of a stretch say, and whose they are taken to be
pub record StretchPart : Type 0 where
  pub unit : ℕ
  pub items : List (Result ScheduleEntry TextError)

-- a stretch, and whose it is
pub record Owned : Type 0 where
  pub unit : ℕ
  pub stretch : Stretch

-- the part of a text that a unit's stretch is
abbrev pub part_at : List ℕ → ℕ → Stretch → StretchPart
part_at text unit s =
    record { unit = unit; items = items_at (s.before + 1) (take s.size (drop s.at text)) }

-- the parts of a text that a unit's stretches are
abbrev pub unit_parts : List ℕ → ℕ → List Stretch → List StretchPart
unit_parts text unit list = map (λ s. part_at text unit s) list

-- the parts of a text by its stretches, in its order
abbrev pub parts_of : List ℕ → List Owned → List StretchPart
parts_of text all = map (λ o. part_at text o.unit o.stretch) all

-- what the lines of parts say, one after another
abbrev pub items_in : List StretchPart → List (Result ScheduleEntry TextError)
items_in [] = []
items_in (p ∷ parts) = p.items ++ items_in parts

-- ---- A list for each unit

-- the stretches of a unit
abbrev pub stretches_of : ℕ → List Owned → List Stretch
stretches_of unit [] = []
stretches_of unit (o ∷ all) =
    if o.unit == unit then o.stretch ∷ stretches_of unit all else stretches_of unit all

abbrev pub list_on : Option (Vec Stretch) → List Stretch
list_on None = []
list_on (Some list) = list.items

-- the list at a unit's number
abbrev pub list_at : List (Vec Stretch) → ℕ → List Stretch
list_at lists unit = list_on (slice_get lists unit)

-- each unit's stretches stand in its list
abbrev pub AreListed : List Owned → List (Vec Stretch) → Type 0
AreListed all lists = (unit : ℕ) → list_at lists unit ≡ stretches_of unit all

-- a text was cut: its lines stand in stretches, of which `order` says whose they are, and which are
-- listed for each unit
pub record IsCut (text order : List ℕ) (lists : List (Vec Stretch)) : Type 0 where
  pub all : List Owned
  pub said : items_at 1 text ≡ items_in (parts_of text all)
  pub whose : map (λ o. o.unit) all ≡ order
  pub each : AreListed all lists
