-- The copies of all units hear a block.
use Rattle.std.proofs.Common.{◌≡◌, ◌≢◌, ℕ, ◌||◌, Bool, true, false, List, [], ◌∷◌, refl, sym, ap, ◌∙◌, subst, Option, Some, None, slice_get}
use Rattle.std.specs.Option.{IfSome, IsSome}
use Rattle.std.proofs.Math.ListN.{set}
use Rattle.std.proofs.lemmas.Bool.{eq-eqb, ne_eqb, true≢false}
use Rattle.unit_packets.specs.Blocks.{Block}
use Rattle.pitch_model.specs.History.{Entry}
use Rattle.heard_items.specs.Heard.{heard_block}
use Rattle.heard_items.specs.Units.{unit_history}
use Rattle.heard_items.proofs.Units.{history_same, history_other}
use Rattle.unit_clients.specs.Clients.{is_named}
use Rattle.unit_clients.specs.Tables.{AtEach}
use Rattle.unit_clients.proofs.Hearing.{unnamed_history}
use Rattle.unit_clients.proofs.Placing.{each_set}
use Rattle.line_copies.specs.declared.kept.Kept.{Kept}
use Rattle.line_copies.specs.Copies.{Keeps, CopiesDiffer, block_differing}
use Rattle.line_copies.specs.Standing.{IsPlaceOf, KeepsAt}
use Rattle.line_copies.proofs.Differing.{block_differs}

-- new slots are those of a unit that no block names
pub new_place : (slots : List Kept) (place : Option (List Kept)) → place ≡ None → Keeps slots [] → (before : List Block) (unit : ℕ) → IsPlaceOf before unit place → Keeps slots (unit_history unit before)
new_place slots place is fresh before unit stands =
    let none : is_named before unit ≡ false = subst (IsPlaceOf before unit) is stands in
    subst (Keeps slots) (sym (unnamed_history before unit none)) fresh

-- where a block names the unit, it has slots
pub named_place : (before : List Block) (unit : ℕ) (place : Option (List Kept)) → IsPlaceOf before unit place → is_named before unit ≡ true → IsSome place
named_place before unit None stands named = absurd (true≢false (sym named ∙ stands))
named_place before unit (Some slots) stands named = refl

-- ---- A block more
named_first : (block : Block) (before : List Block) → is_named (block ∷ before) block.unit ≡ true
named_first block before = ap (λ (b : Bool). b || is_named before block.unit) (eq-eqb block.unit block.unit refl)

named_other : (block : Block) (before : List Block) (unit : ℕ) → unit ≢ block.unit → is_named (block ∷ before) unit ≡ is_named before unit
named_other block before unit other = ap (λ (b : Bool). b || is_named before unit) (ne_eqb unit block.unit other)

other_place : (block : Block) (before : List Block) (unit : ℕ) (place : Option (List Kept)) → unit ≢ block.unit → IsPlaceOf before unit place → IsPlaceOf (block ∷ before) unit place
other_place block before unit None other stands = named_other block before unit other ∙ stands
other_place block before unit (Some slots) other stands = (
  named_other block before unit other ∙ stands.0,
  subst (Keeps slots) (sym (history_other unit block before (λ same. other (sym same)))) stands.1,
)

this_place : (block : Block) (before : List Block) (place : Option (List Kept)) → KeepsAt (heard_block block (unit_history block.unit before)) place → IsPlaceOf (block ∷ before) block.unit place
this_place block before None keeps = absurd keeps
this_place block before (Some slots) keeps = (named_first block before, subst (Keeps slots) (sym (history_same block before)) keeps)

pub places_hear : (places : List (Option (List Kept))) (place : Option (List Kept)) (block : Block) (before : List Block) → AtEach (IsPlaceOf before) places → KeepsAt (heard_block block (unit_history block.unit before)) place
    → AtEach (IsPlaceOf (block ∷ before)) (set places block.unit place)
places_hear places place block before stands keeps =
    each_set (IsPlaceOf before) (IsPlaceOf (block ∷ before)) places block.unit place stands (λ unit other apart. other_place block before unit other apart) (this_place block before place keeps)

-- ---- A block that was not heard for want of memory
pub places_still : (places : List (Option (List Kept))) (u : ℕ) (was place : Option (List Kept)) (before : List Block) → slice_get places u ≡ Some was → place ≡ was → AtEach (IsPlaceOf before) places → AtEach (IsPlaceOf before) (set places u place)
places_still places u was place before there same stands =
    each_set (IsPlaceOf before) (IsPlaceOf before) places u place stands (λ unit other apart still. still) (subst (IsPlaceOf before u) (sym same) (stands.each u was there))

-- ---- What is told is so
pub told_places : (told : Option ℕ) (P : List Block → Type 0) (block : Block) → ((before : List Block) → P before → told ≡ block_differing block (unit_history block.unit before))
    → IfSome told (λ n. (before : List Block) → P before → CopiesDiffer (unit_history block.unit (block ∷ before)) n)
told_places None P block is = tt
told_places (Some n) P block is = λ before holds.
    subst (λ (E : List Entry). CopiesDiffer E n) (sym (history_same block before)) (block_differs block (unit_history block.unit before) n (sym (is before holds)))
