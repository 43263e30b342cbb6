-- A unit's client hears a block.
use Rattle.std.proofs.Common.{◌≡◌, ◌≢◌, ℕ, ◌<◌, inl, inr, Bool, true, false, ◌||◌, List, [], ◌∷◌, eqb, refl, sym, ap, ◌∙◌, subst, arith, Option, Some, None, Result, OnOk, slice_get}
use Rattle.std.proofs.Math.ListN.{set}
use Rattle.std.specs.Option.{option_flatten}
use Rattle.std.proofs.lemmas.Bool.{cases_eq, eq-eqb, ne_eqb}
use Rattle.std.proofs.lemmas.Option.{slice_get_within}
use Rattle.unit_packets.specs.Blocks.{Block}
use Rattle.pitch_model.specs.History.{Entry, Raw}
use Rattle.pitch_model.specs.Honest.{Honest}
use Rattle.pitch_model.proofs.Results.{on_ok_map}
use Rattle.heard_items.specs.Heard.{heard_block}
use Rattle.heard_items.specs.Units.{unit_history}
use Rattle.heard_items.proofs.Units.{history_same, history_other, honest_block}
use Rattle.client_core.specs.Tracks.{Tracks, Keeps}
use Rattle.client_core.specs.declared.client.UnitClient.{UnitClient}
use Rattle.unit_clients.specs.Clients.{Units, is_named, IsClient, TracksAt, IsSlotAsBefore, Clients, KeepsTo, KeepsToVenues, HaveHeard, client_of}
use Rattle.unit_clients.specs.Tables.{with_place, AtEach}
use Rattle.unit_clients.proofs.Placing.{each_set, set_there}

-- ---- Units that no block names
not_named : (block : Block) (before : List Block) (unit : ℕ) → is_named (block ∷ before) unit ≡ false → (block.unit ≢ unit) × (is_named before unit ≡ false)
not_named block before unit none = by (eqb unit block.unit) (is_named before unit) refl none
  where
    by : (a b : Bool) → eqb unit block.unit ≡ a → (a || b) ≡ false → (block.unit ≢ unit) × (b ≡ false)
    by true b e h = absurd (clash h)
      where
        clash : true ≡ false → ⊥
        clash t = cc
    by false b e h = ((λ same. clash (sym (eq-eqb unit block.unit (sym same)) ∙ e)), h)
      where
        clash : true ≡ false → ⊥
        clash t = cc

pub unnamed_history : (before : List Block) (unit : ℕ) → is_named before unit ≡ false → unit_history unit before ≡ []
unnamed_history [] unit none = refl
unnamed_history (block ∷ before) unit none =
    let parts = not_named block before unit none in
    history_other unit block before parts.0 ∙ unnamed_history before unit parts.1

-- a new client is where a unit that no block names stands
pub new_client : (H : ℕ) (client : UnitClient) (slot : Option UnitClient) → slot ≡ None → Tracks client H [] → (before : List Block) (unit : ℕ) → IsClient H before unit slot → Tracks client H (unit_history unit before)
new_client H client slot is fresh before unit stands =
    let none : is_named before unit ≡ false = subst (IsClient H before unit) is stands in
    subst (λ (E : List Entry). Tracks client H E) (sym (unnamed_history before unit none)) fresh

-- ---- A block more
named_first : (block : Block) (before : List Block) (unit : ℕ) → unit ≡ block.unit → is_named (block ∷ before) unit ≡ true
named_first block before unit same = ap (λ (b : Bool). b || is_named before unit) (eq-eqb unit block.unit same)

named_other : (block : Block) (before : List Block) (unit : ℕ) → unit ≢ block.unit → is_named (block ∷ before) unit ≡ is_named before unit
named_other block before unit other = ap (λ (b : Bool). b || is_named before unit) (ne_eqb unit block.unit other)

other_client : (H : ℕ) (block : Block) (before : List Block) (unit : ℕ) (slot : Option UnitClient) → unit ≢ block.unit → IsClient H before unit slot → IsClient H (block ∷ before) unit slot
other_client H block before unit None other stands = named_other block before unit other ∙ stands
other_client H block before unit (Some client) other stands = (
  named_other block before unit other ∙ stands.0,
  subst (λ (E : List Entry). Tracks client H E) (sym (history_other unit block before (λ same. other (sym same)))) stands.1,
)

client_hears : (H : ℕ) (before : List Block) (unit : ℕ) (slot : Option UnitClient) → is_named before unit ≡ true → TracksAt H (unit_history unit before) slot → IsClient H before unit slot
client_hears H before unit None named stands = absurd stands
client_hears H before unit (Some client) named stands = (named, stands)

pub clients_hear : (H : ℕ) (clients : List (Option UnitClient)) (slot : Option UnitClient) (block : Block) (before : List Block) → Clients H clients before
    → TracksAt H (heard_block block (unit_history block.unit before)) slot → Clients H (set clients block.unit slot) (block ∷ before)
clients_hear H clients slot block before stands heard =
    each_set (IsClient H before) (IsClient H (block ∷ before)) clients block.unit slot stands (other_client H block before)
    (client_hears H (block ∷ before) block.unit slot (named_first block before block.unit refl) (subst (λ (E : List Entry). TracksAt H E slot) (sym (history_same block before)) heard))

-- what a block of another unit says is nothing to a client
other_keeps : (block : Block) (before : List Block) (unit : ℕ) (slot : Option UnitClient) → unit ≢ block.unit → KeepsToVenues before unit slot → KeepsToVenues (block ∷ before) unit slot
other_keeps block before unit slot other kept = λ Image V honest.
    kept Image V (subst (Honest Image V) (history_other unit block before (λ same. other (sym same))) honest)

pub clients_keep : (block : Block) (before : List Block) (clients : List (Option UnitClient)) (was slot : Option UnitClient) → slice_get clients block.unit ≡ Some was → AtEach (KeepsToVenues before) clients
    → ((Image : List Raw → ℕ → List Raw) (V : List Raw) (E : List Entry) → Honest Image V (heard_block block E) → KeepsTo V was → KeepsTo V slot)
    → AtEach (KeepsToVenues (block ∷ before)) (set clients block.unit slot)
clients_keep block before clients was slot there kept keeps =
    each_set (KeepsToVenues before) (KeepsToVenues (block ∷ before)) clients block.unit slot kept (other_keeps block before) (λ Image V honest.
    let E : List Entry = unit_history block.unit before in
    let here : Honest Image V (heard_block block E) = subst (Honest Image V) (history_same block before) honest in
    keeps Image V E here (kept.each block.unit was there Image V (honest_block Image V block E here)))

-- ---- A block that was not heard for want of memory
client_still : (H : ℕ) (before : List Block) (unit : ℕ) (old slot : Option UnitClient) → IsSlotAsBefore old slot → IsClient H before unit old → IsClient H before unit slot
client_still H before unit None slot same stands = subst (IsClient H before unit) (sym same) stands
client_still H before unit (Some client) None same stands = absurd same
client_still H before unit (Some client) (Some client') same stands = (stands.0, same.tracks H (unit_history unit before) stands.1)

keeps_still : (V : List Raw) (old slot : Option UnitClient) → IsSlotAsBefore old slot → KeepsTo V old → KeepsTo V slot
keeps_still V None slot same kept = subst (KeepsTo V) (sym same) kept
keeps_still V (Some client) None same kept = absurd same
keeps_still V (Some client) (Some client') same kept = same.keeps V kept

pub clients_still : (H u : ℕ) (clients : List (Option UnitClient)) (was slot : Option UnitClient) (before : List Block) → slice_get clients u ≡ Some was → IsSlotAsBefore was slot → Clients H clients before → Clients H (set clients u slot) before
clients_still H u clients was slot before there same stands =
    each_set (IsClient H before) (IsClient H before) clients u slot stands (λ unit other apart kept. kept) (client_still H before u was slot same (stands.each u was there))

keep_still : (u : ℕ) (clients : List (Option UnitClient)) (was slot : Option UnitClient) (before : List Block) → slice_get clients u ≡ Some was → IsSlotAsBefore was slot → AtEach (KeepsToVenues before) clients → AtEach (KeepsToVenues before) (set clients u slot)
keep_still u clients was slot before there same keeps =
    each_set (KeepsToVenues before) (KeepsToVenues before) clients u slot keeps (λ unit other apart kept. kept)
    (λ Image V honest. keeps_still V was slot same (keeps.each u was there Image V honest))

pub all_still : (units : Units) (u : ℕ) (was slot : Option UnitClient) → slice_get units.places u ≡ Some was → IsSlotAsBefore was slot → (before : List Block) → HaveHeard units before → HaveHeard (with_place units u slot) before
all_still units u was slot there same before heard = record {
  clients = clients_still units.limit u units.places was slot before there same heard.clients;
  named = heard.named;
  keep = keep_still u units.places was slot before there same heard.keep;
}

-- ---- The client of a unit
pub client_at : (units : Units) (u : ℕ) (was : Option UnitClient) → slice_get units.places u ≡ Some was → client_of units u ≡ was
client_at units u was there = ap option_flatten there

pub client_put : (units : Units) (u : ℕ) (was slot : Option UnitClient) → slice_get units.places u ≡ Some was → client_of (with_place units u slot) u ≡ slot
client_put units u was slot there = ap option_flatten (set_there units.places u slot was there)

-- ---- Units
-- a block more
pub low_more : (n : ℕ) (block : Block) (before : List Block) → block.unit < n → ((unit : ℕ) → is_named before unit ≡ true → unit < n) → (unit : ℕ) → is_named (block ∷ before) unit ≡ true → unit < n
low_more n block before here low unit named = elim (cases_eq unit block.unit) [
  | inl same ↦ omega arith
  | inr apart ↦ low unit (sym (ap (λ (b : Bool). b || is_named before unit) (ne_eqb unit block.unit apart)) ∙ named)
]

-- a client that heard a block keeps to the venue's messages where the place did in which it stands
pub keeps_there : {A F : Type 0} (r : Result A F) (block : Block) (client client' : UnitClient) (place : Option UnitClient) → place ≡ Some client
    → OnOk r ((Image : List Raw → ℕ → List Raw) (V : List Raw) (E : List Entry) → Honest Image V (heard_block block E) → Keeps client V → Keeps client' V)
    → OnOk r ((Image : List Raw → ℕ → List Raw) (V : List Raw) (E : List Entry) → Honest Image V (heard_block block E) → KeepsTo V place → Keeps client' V)
keeps_there r block client client' place is keeps =
    on_ok_map
    ((Image : List Raw → ℕ → List Raw) (V : List Raw) (E : List Entry) → Honest Image V (heard_block block E) → Keeps client V → Keeps client' V)
    ((Image : List Raw → ℕ → List Raw) (V : List Raw) (E : List Entry) → Honest Image V (heard_block block E) → KeepsTo V place → Keeps client' V)
    r keeps (λ heard Image V E honest kept. heard Image V E honest (subst (KeepsTo V) is kept))

-- the client at the block's unit heard it, in whatever place of the table it stands
pub table_hears : (table : Units) (block : Block) (was slot : Option UnitClient) → slice_get table.places block.unit ≡ Some was
    → ((before : List Block) (unit : ℕ) → IsClient table.limit before unit was → TracksAt table.limit (heard_block block (unit_history unit before)) slot)
    → ((Image : List Raw → ℕ → List Raw) (V : List Raw) (E : List Entry) → Honest Image V (heard_block block E) → KeepsTo V was → KeepsTo V slot)
    → (before : List Block) → HaveHeard table before → HaveHeard (with_place table block.unit slot) (block ∷ before)
table_hears table block was slot there tracks keeps before heard =
    let within = slice_get_within table.places block.unit was there in
    let many = heard.clients.many in
    record {
      clients = clients_hear table.limit table.places slot block before heard.clients (tracks before block.unit (heard.clients.each block.unit was there));
      named = low_more 256 block before (omega arith) heard.named;
      keep = clients_keep block before table.places was slot there heard.keep keeps;
    }
