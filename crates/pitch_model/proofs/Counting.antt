-- How many sequences are held.
use Rattle.std.proofs.Common.{◌≡◌, ℕ, suc, ◌≤◌, Bool, true, false, ◌&&◌, ◌||◌, cond, List, [], ◌∷◌, length, eqb, ltb, refl, sym, ap, ◌∙◌, arith}
use Rattle.std.specs.Set.{is_member, unique_keys, distinct_count}
use Rattle.std.specs.Cmp.{nat_eq_equiv}
use Rattle.std.specs.List.{AllByRecursion, IsDistinct}
use Rattle.std.proofs.lemmas.Map.Made.{length-le_from_is_member, distinct_count-le}
use Rattle.std.proofs.lemmas.Bool.{both_ways, eqb-true, cond_both}
use Rattle.std.proofs.lemmas.Bool.Decides.{nat_tests}
use Rattle.pitch_model.specs.History.{Entry, Message, Next, GrpUp, GrpDown, GapReply, SpinUp, SpinDown, Advertised, SpinReply, ImageMessages, SpinFinished, Ticked, messages_at, images_at, spin_of}
use Rattle.pitch_model.specs.Reach.{SinceOverflow, is_seen, grown, settled, reach_of, held_of, held_count, since_overflow, sequences}
use Rattle.pitch_model.proofs.Least.{member_held}
use Rattle.pitch_model.proofs.Rises.{grown_rises}

-- ---- The keys of a list, each once
apart_from_absent : (x : ℕ) (ys : List ℕ) → is_member eqb ys x ≡ false → AllByRecursion (λ y. eqb x y ≡ false) ys
apart_from_absent x [] h = tt
apart_from_absent x (y ∷ ys) h = by (eqb x y) refl h (apart_from_absent x ys)
  where
    by : (b : Bool) → eqb x y ≡ b → (b || is_member eqb ys x) ≡ false → (is_member eqb ys x ≡ false → AllByRecursion (λ y. eqb x y ≡ false) ys) → (eqb x y ≡ false) × AllByRecursion (λ y. eqb x y ≡ false) ys
    by true t g r = absurd (both_ways _ g refl)
    by false t g r = (t, r g)

member_unique : (xs : List ℕ) (q : ℕ) → is_member eqb (unique_keys eqb xs) q ≡ is_member eqb xs q
member_unique [] q = refl
member_unique (x ∷ xs) q = by (is_member eqb xs x) (eqb q x) refl refl (member_unique xs q)
  where
    by : (b c : Bool) → is_member eqb xs x ≡ b → eqb q x ≡ c → is_member eqb (unique_keys eqb xs) q ≡ is_member eqb xs q → is_member eqb (cond b (unique_keys eqb xs) (x ∷ unique_keys eqb xs)) q ≡ (c || is_member eqb xs q)
    by true true m t r = r ∙ ap (is_member eqb xs) (eqb-true q x t) ∙ m
    by true false m t r = r
    by false c m t r = rw t (ap (λ v. c || v) r)

distinct_unique : (xs : List ℕ) → IsDistinct eqb (unique_keys eqb xs)
unfolding IsDistinct
distinct_unique [] = tt
distinct_unique (x ∷ xs) = by (is_member eqb xs x) refl (distinct_unique xs)
  where
    by : (b : Bool) → is_member eqb xs x ≡ b → IsDistinct eqb (unique_keys eqb xs) → IsDistinct eqb (cond b (unique_keys eqb xs) (x ∷ unique_keys eqb xs))
    by true m r = r
    by false m r = (apart_from_absent x (unique_keys eqb xs) (member_unique xs x ∙ m), r)

-- a list within another has no more keys
pub count_le : (xs ys : List ℕ) → ((q : ℕ) → is_member eqb xs q ≡ true → is_member eqb ys q ≡ true) → distinct_count eqb xs ≤ distinct_count eqb ys
count_le xs ys within = length-le_from_is_member nat_eq_equiv (unique_keys eqb xs) (unique_keys eqb ys) (distinct_unique xs) (λ q m. member_unique ys q ∙ within q (sym (member_unique xs q) ∙ m))

pub count_same : (xs ys : List ℕ) → ((q : ℕ) → is_member eqb xs q ≡ is_member eqb ys q) → distinct_count eqb xs ≡ distinct_count eqb ys
count_same xs ys same =
    let up = count_le xs ys (λ q m. sym (same q) ∙ m) in
    let down = count_le ys xs (λ q m. same q ∙ m) in
    omega arith

-- ---- What is held
-- what is held of P is held of Q
pub held_le : (P Q : SinceOverflow) → ((k : ℕ) → (ltb (reach_of P) k && is_seen P k) ≡ true → (ltb (reach_of Q) k && is_seen Q k) ≡ true) → held_count P ≤ held_count Q
unfolding held_count
held_le P Q within = count_le (held_of P) (held_of Q) (λ k m. member_held Q k ∙ within k (sym (member_held P k) ∙ m))

pub held_same : (P Q : SinceOverflow) → ((k : ℕ) → (ltb (reach_of P) k && is_seen P k) ≡ (ltb (reach_of Q) k && is_seen Q k)) → held_count P ≡ held_count Q
unfolding held_count
held_same P Q same = count_same (held_of P) (held_of Q) (λ k. member_held P k ∙ same k ∙ sym (member_held Q k))

-- one more is held
pub held_more : (P Q : SinceOverflow) (k : ℕ) → (ltb (reach_of P) k && is_seen P k) ≡ false → ((j : ℕ) → (ltb (reach_of Q) j && is_seen Q j) ≡ (eqb j k || (ltb (reach_of P) j && is_seen P j))) → held_count Q ≡ suc (held_count P)
unfolding held_count
held_more P Q k fresh more =
    count_same (held_of Q) (k ∷ held_of P) (λ j. member_held Q j ∙ more j ∙ ap (λ (b : Bool). eqb j k || b) (sym (member_held P j)))
    ∙ ap (λ (b : Bool). length (cond b (unique_keys eqb (held_of P)) (k ∷ unique_keys eqb (held_of P)))) (member_held P k ∙ fresh)

-- ---- Never more than the hold has places
held_alone : (P : SinceOverflow) (H k : ℕ) → 1 ≤ H → held_count (record { base = reach_of P; images = []; seen = k ∷ [] }) ≤ H
unfolding held_count
held_alone P H k one =
    let Q : SinceOverflow = record { base = reach_of P; images = []; seen = k ∷ [] } in
    let l = distinct_count-le eqb (held_of Q) in
    let s = cond_both (ltb (reach_of Q) k) (k ∷ []) [] (λ xs. length xs ≤ 1) (λ t. omega arith) (λ f. omega arith) in
    omega arith

one_message : (entry : Entry) → length (sequences (messages_at entry)) ≤ 1
one_message (Message k raw) = omega arith
one_message (Next next) = omega arith
one_message GrpUp = omega arith
one_message GrpDown = omega arith
one_message (GapReply accepted) = omega arith
one_message SpinUp = omega arith
one_message SpinDown = omega arith
one_message (Advertised s) = omega arith
one_message (SpinReply s orders accepted) = omega arith
one_message (ImageMessages raws) = omega arith
one_message (SpinFinished s) = omega arith
one_message (Ticked ask) = omega arith

few_settled : (H : ℕ) (P : SinceOverflow) (images ms : List ℕ) → 1 ≤ H → length ms ≤ 1 → held_count P ≤ H → held_count (settled H (grown P images ms) ms) ≤ H
few_settled H P images [] one l h =
    let up = grown_rises P images [] in
    let le = held_le (grown P images []) P (λ k t. grind (arith, nat_tests, up, t)) in
    omega arith
few_settled H P images (k ∷ []) one l h =
    let G = grown P images (k ∷ []) in
    cond_both (ltb H (held_count G)) (record { base = reach_of G; images = []; seen = k ∷ [] }) G (λ R. held_count R ≤ H) (λ o. held_alone G H k one) (λ o. grind (arith, nat_tests, o))
few_settled H P images (k ∷ j ∷ ms) one l h = absurd (omega arith)

none_held : (H : ℕ) → held_count (record { base = 0; images = []; seen = [] }) ≤ H
unfolding held_count
none_held H = omega arith

pub held_few : (H : ℕ) (E : List Entry) → 1 ≤ H → held_count (since_overflow H E) ≤ H
held_few H [] one = none_held H
held_few H (entry ∷ E) one = few_settled H (since_overflow H E) (sequences (images_at entry (spin_of E))) (sequences (messages_at entry)) one (one_message entry) (held_few H E one)
