-- The units that blocks name, and what their clients heard.
use Rattle.std.proofs.Common.{◌≡◌, ◌≢◌, ℕ, Bool, true, false, ◌||◌, ◌==◌, cond, List, [], ◌∷◌, eqb, ltb, refl, sym, ap, ◌∙◌, subst, inl, inr, arith}
use Rattle.std.specs.List.{list_any, AllByRecursion}
use Rattle.std.specs.List.Sorted.{IsStrictlyIncreasing, IsStrictlySortedBy}
use Rattle.std.proofs.lemmas.Map.Keys.{IsStrictlyIncreasing-from_sorted}
use Rattle.std.specs.Ordering.{nat_cmp}
use Rattle.std.specs.declared.cmp.Ordering.TheVariants.{Less}
use Rattle.std.specs.Set.{is_member}
use Rattle.std.proofs.lemmas.Bool.{cond_both, cond-true, cond-false, eqb-true, eq-eqb, ne_eqb, lt-ltb, le-ltb, cases_lt, cases_eq}
use Rattle.std.proofs.lemmas.Bool.Decides.{nat_tests}
use Rattle.unit_packets.specs.Blocks.{Block}
use Rattle.pitch_model.specs.History.{Entry, Raw}
use Rattle.pitch_model.specs.Honest.{Honest}
use Rattle.heard_items.specs.Heard.{heard_block, heard_sequenced}
use Rattle.heard_items.specs.Units.{unit_history, with_number, units_of, AllHonest}
use Rattle.heard_items.proofs.Honesty.{honest_before}

-- ---- Units
-- a number stands among the others or is the new one
pub member-with_number : (n : ℕ) (ms : List ℕ) (q : ℕ) → is_member eqb (with_number n ms) q ≡ (eqb q n || is_member eqb ms q)
member-with_number n [] q = refl
member-with_number n (m ∷ ms) q = by (eqb n m) (ltb n m) refl (member-with_number n ms q)
  where
    swapped : (a b c : Bool) → (a || (b || c)) ≡ (b || (a || c))
    swapped true true c = refl
    swapped true false c = refl
    swapped false b c = refl

    here : (e : n ≡ m) → (eqb q m || is_member eqb ms q) ≡ (eqb q n || (eqb q m || is_member eqb ms q))
    here e = elim (cases_eq q n) [ inl same ↦ grind (arith, nat_tests, e, same) | inr apart ↦ grind (arith, nat_tests, e, apart) ]

    by : (b c : Bool) → eqb n m ≡ b → is_member eqb (with_number n ms) q ≡ (eqb q n || is_member eqb ms q) → is_member eqb (cond b (m ∷ ms) (cond c (n ∷ m ∷ ms) (m ∷ with_number n ms))) q ≡ (eqb q n || (eqb q m || is_member eqb ms q))
    by true c e r = here (eqb-true n m e)
    by false true e r = refl
    by false false e r = ap (λ (b : Bool). eqb q m || b) r ∙ swapped (eqb q m) (eqb q n) (is_member eqb ms q)

-- a unit is listed exactly where a block names it
pub member-units_of : (before : List Block) (unit : ℕ) → is_member eqb (units_of before) unit ≡ list_any (λ block. unit == block.unit) before
member-units_of [] unit = refl
member-units_of (block ∷ before) unit = member-with_number block.unit (units_of before) unit ∙ ap (λ (b : Bool). eqb unit block.unit || b) (member-units_of before unit)

all_with : (m n : ℕ) (ms : List ℕ) → nat_cmp m n ≡ Less → AllByRecursion (λ y. nat_cmp m y ≡ Less) ms → AllByRecursion (λ y. nat_cmp m y ≡ Less) (with_number n ms)
all_with m n [] below all = (below, tt)
all_with m n (x ∷ xs) below all =
    cond_both (eqb n x) (x ∷ xs) (cond (ltb n x) (n ∷ x ∷ xs) (x ∷ with_number n xs)) (AllByRecursion (λ y. nat_cmp m y ≡ Less))
    (λ t. all)
    (λ f. cond_both (ltb n x) (n ∷ x ∷ xs) (x ∷ with_number n xs) (AllByRecursion (λ y. nat_cmp m y ≡ Less)) (λ t. (below, all)) (λ g. (all.0, all_with m n xs below all.1)))

all_below : (n m : ℕ) (ms : List ℕ) → nat_cmp n m ≡ Less → AllByRecursion (λ y. nat_cmp m y ≡ Less) ms → AllByRecursion (λ y. nat_cmp n y ≡ Less) ms
all_below n m [] below all = tt
all_below n m (x ∷ xs) below all = (less_less n m x below all.0, all_below n m xs below all.1)
  where
    less_less : (n m x : ℕ) → nat_cmp n m ≡ Less → nat_cmp m x ≡ Less → nat_cmp n x ≡ Less
    less_less n m x a b = grind (arith, nat_tests, a, b)

with_number_rises : (n : ℕ) (ms : List ℕ) → IsStrictlySortedBy nat_cmp ms → IsStrictlySortedBy nat_cmp (with_number n ms)
unfolding IsStrictlySortedBy
with_number_rises n [] s = (tt, tt)
with_number_rises n (m ∷ ms) s = elim (cases_eq n m) [
  | inl same ↦ subst (λ (b : Bool). IsStrictlySortedBy nat_cmp (cond b (m ∷ ms) (cond (ltb n m) (n ∷ m ∷ ms) (m ∷ with_number n ms)))) (sym (eq-eqb n m same)) s
  | inr apart ↦ subst (λ (b : Bool). IsStrictlySortedBy nat_cmp (cond b (m ∷ ms) (cond (ltb n m) (n ∷ m ∷ ms) (m ∷ with_number n ms)))) (sym (ne_eqb n m apart))
      (elim (cases_lt n m) [
        | inl below ↦ subst (λ (b : Bool). IsStrictlySortedBy nat_cmp (cond b (n ∷ m ∷ ms) (m ∷ with_number n ms))) (sym (lt-ltb n m below))
            (let l : nat_cmp n m ≡ Less = grind (arith, nat_tests, below) in ((l, all_below n m ms l s.0), s))
        | inr above ↦ subst (λ (b : Bool). IsStrictlySortedBy nat_cmp (cond b (n ∷ m ∷ ms) (m ∷ with_number n ms))) (sym (le-ltb n m above))
            (let l : nat_cmp m n ≡ Less = grind (arith, nat_tests, above, apart) in (all_with m n ms l s.0, with_number_rises n ms s.1))
      ])
]

units_sorted : (before : List Block) → IsStrictlySortedBy nat_cmp (units_of before)
unfolding IsStrictlySortedBy
units_sorted [] = tt
units_sorted (block ∷ before) = with_number_rises block.unit (units_of before) (units_sorted before)

-- the units rise, and so none is listed twice
pub units_rise : (before : List Block) → IsStrictlyIncreasing (units_of before)
units_rise before = IsStrictlyIncreasing-from_sorted (units_of before) (units_sorted before)

-- ---- Histories
pub history_same : (block : Block) (before : List Block) → unit_history block.unit (block ∷ before) ≡ heard_block block (unit_history block.unit before)
history_same block before = cond-true (block.unit == block.unit) (heard_block block (unit_history block.unit before)) (unit_history block.unit before) (eq-eqb block.unit block.unit refl)

pub history_other : (unit : ℕ) (block : Block) (before : List Block) → block.unit ≢ unit → unit_history unit (block ∷ before) ≡ unit_history unit before
history_other unit block before other = cond-false (block.unit == unit) (heard_block block (unit_history unit before)) (unit_history unit before) (ne_eqb block.unit unit other)

-- ---- Honesty
module _ (Image : List Raw → ℕ → List Raw) where
  honest_sequenced : (V : List Raw) (sequence : ℕ) (raws : List Raw) (E : List Entry) → Honest Image V (heard_sequenced sequence raws E) → Honest Image V E
  honest_sequenced V sequence [] E h = h.1
  honest_sequenced V sequence (raw ∷ raws) E h = honest_before Image V sequence (raw ∷ raws) E h

  -- what was heard before a block is honest
  pub honest_block : (V : List Raw) (block : Block) (E : List Entry) → Honest Image V (heard_block block E) → Honest Image V E
  honest_block V block E = cond_both (block.sequence == 0) E (heard_sequenced block.sequence block.raws E) (λ F. Honest Image V F → Honest Image V E) (λ t h. h) (λ f h. honest_sequenced V block.sequence block.raws E h)

  pub all_honest_before : (Vs : ℕ → List Raw) (block : Block) (before : List Block) → AllHonest Image Vs (block ∷ before) → AllHonest Image Vs before
  all_honest_before Vs block before h unit =
      cond_both (block.unit == unit) (heard_block block (unit_history unit before)) (unit_history unit before) (λ F. Honest Image (Vs unit) F → Honest Image (Vs unit) (unit_history unit before))
      (λ t. honest_block (Vs unit) block (unit_history unit before)) (λ f h. h) (h unit)
