-- A unit of a stream hears a block.
use Rattle.std.proofs.Common.{◌≡◌, ◌≢◌, ℕ, List, [], ◌∷◌, sym, ◌∙◌, subst, Option, Some, None}
use Rattle.std.proofs.Math.ListN.{set}
use Rattle.unit_packets.specs.Blocks.{Block}
use Rattle.pitch_model.specs.History.{Entry}
use Rattle.heard_items.specs.HeardBlocks.{heard_block}
use Rattle.heard_items.specs.Units.{unit_history}
use Rattle.heard_items.proofs.Units.{history_same, history_other}
use Rattle.unit_clients.specs.Tables.{AtEach}
use Rattle.unit_clients.proofs.Placing.{each_set}
use Rattle.best_quotes.specs.Stands.{Stands}
use Rattle.best_quotes.specs.Units.{StandsAt, IsQuoted}
use Rattle.best_quotes.specs.declared.unit.QuotedUnit.{QuotedUnit}

other_unit : (H unit : ℕ) (block : Block) (before : List Block) (slot : Option QuotedUnit) → block.unit ≢ unit → IsQuoted H before unit slot → IsQuoted H (block ∷ before) unit slot
other_unit H unit block before None other stands = history_other unit block before other ∙ stands
other_unit H unit block before (Some quoted) other stands = subst (λ (E : List Entry). Stands quoted H E) (sym (history_other unit block before other)) stands

this_unit : (H : ℕ) (block : Block) (before : List Block) (slot : Option QuotedUnit) → StandsAt H (heard_block block (unit_history block.unit before)) slot → IsQuoted H (block ∷ before) block.unit slot
this_unit H block before None stands = absurd stands
this_unit H block before (Some quoted) stands = subst (λ (E : List Entry). Stands quoted H E) (sym (history_same block before)) stands

-- the unit's place stands for the block too, and the other places as before
pub units_hear : (H : ℕ) (places : List (Option QuotedUnit)) (slot : Option QuotedUnit) (block : Block) (before : List Block) → AtEach (IsQuoted H before) places → StandsAt H (heard_block block (unit_history block.unit before)) slot
    → AtEach (IsQuoted H (block ∷ before)) (set places block.unit slot)
units_hear H places slot block before stands heard =
    each_set (IsQuoted H before) (IsQuoted H (block ∷ before)) places block.unit slot stands (λ unit other apart. other_unit H unit block before other (λ same. apart (sym same)))
    (this_unit H block before slot heard)

-- a new unit stands where no block of it was heard
pub new_unit : (H unit : ℕ) (quoted : QuotedUnit) (slot : Option QuotedUnit) (before : List Block) → slot ≡ None → Stands quoted H [] → IsQuoted H before unit slot → Stands quoted H (unit_history unit before)
new_unit H unit quoted slot before is fresh stands = subst (λ (E : List Entry). Stands quoted H E) (sym (subst (IsQuoted H before unit) is stands)) fresh

pub old_unit : (H unit : ℕ) (quoted : QuotedUnit) (slot : Option QuotedUnit) (before : List Block) → slot ≡ Some quoted → IsQuoted H before unit slot → Stands quoted H (unit_history unit before)
old_unit H unit quoted slot before is stands = subst (IsQuoted H before unit) is stands
