-- What the copies of all units stand for, once some blocks were heard. Blocks stand newest first.
use Rattle.std.specs.Prelude.{◌≡◌, ℕ, true, false, List, Option, Some, None}
use Rattle.unit_packets.specs.Blocks.{Block}
use Rattle.pitch_model.specs.History.{Entry}
use Rattle.heard_items.specs.Units.{unit_history}
use Rattle.unit_clients.specs.Clients.{is_named}
use Rattle.unit_clients.specs.Tables.{AtEach}
use Rattle.line_copies.specs.Copies.{Keeps}
use Rattle.line_copies.specs.declared.kept.Kept.{Kept}
use Rattle.line_copies.specs.declared.lines.LineCopies.{LineCopies}

-- a place has the slots of a unit that heard this
abbrev pub KeepsAt : List Entry → Option (List Kept) → Type 0
KeepsAt E None = ⊥
KeepsAt E (Some slots) = Keeps slots E

-- a unit has slots exactly where a block names it, and they have what is kept of its blocks
abbrev pub IsPlaceOf : List Block → ℕ → Option (List Kept) → Type 0
IsPlaceOf before unit None = is_named before unit ≡ false
IsPlaceOf before unit (Some slots) =
    (is_named before unit ≡ true) × Keeps slots (unit_history unit before)

-- so has each unit
abbrev pub HaveKept : LineCopies → List Block → Type 0
HaveKept copies before = AtEach (IsPlaceOf before) copies.units.places
