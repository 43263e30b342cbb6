-- What the quoted units of a stream stand for, once some blocks were heard. Blocks stand newest
-- first.
use Rattle.std.specs.Prelude.{◌≡◌, ℕ, List, [], Option, Some, None}
use Rattle.unit_packets.specs.Blocks.{Block}
use Rattle.pitch_model.specs.History.{Entry}
use Rattle.heard_items.specs.Units.{unit_history}
use Rattle.unit_clients.specs.Tables.{UnitTable, AtEach}
use Rattle.best_quotes.specs.Stands.{Stands}
use Rattle.best_quotes.specs.declared.unit.QuotedUnit.{QuotedUnit}

-- the quoted units of a stream
abbrev pub QuotedUnits : Type 0
QuotedUnits = UnitTable QuotedUnit

-- there is a quoted unit, and it stands for this history
abbrev pub StandsAt : ℕ → List Entry → Option QuotedUnit → Type 0
StandsAt H E None = ⊥
StandsAt H E (Some quoted) = Stands quoted H E

-- what is in a unit's place is where the unit's blocks bring it; where nothing is, no block was
-- heard of the unit
abbrev pub IsQuoted : ℕ → List Block → ℕ → Option QuotedUnit → Type 0
IsQuoted H before unit None = unit_history unit before ≡ []
IsQuoted H before unit (Some quoted) = Stands quoted H (unit_history unit before)

-- each unit heard its blocks
abbrev pub HaveQuoted : QuotedUnits → List Block → Type 0
HaveQuoted q before = AtEach (IsQuoted q.limit before) q.places
