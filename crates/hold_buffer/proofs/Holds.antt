-- Each change leaves a hold.
use Rattle.std.proofs.Common.{◌≡◌, ◌≢◌, ℕ, ◌+◌, ◌≤◌, ◌<◌, Bool, true, false, ◌&&◌, ◌||◌, cond, not, List, eqb, ltb, refl, sym, ap, ◌∙◌, subst, inl, inr, arith, Option, Some, None}
use Rattle.std.specs.Ordering.{nat_cmp, eq_by_cmp}
use Rattle.std.specs.Cmp.{nat_cmp_total}
use Rattle.std.specs.Option.{is_some}
use Rattle.std.specs.FinMap.{get, contains_key, insert, remove, len, empty, get-empty, get-insert, get-remove, len-insert, len-empty, retain_keys}
use Rattle.std.proofs.lemmas.Bool.{and_parts, cond-false, false≢true, both_ways, ltb-true, cases_eq}
use Rattle.std.proofs.lemmas.Bool.Decides.{nat_tests}
use Rattle.hold_buffer.specs.HoldView.{HoldView, Held}
use Rattle.hold_buffer.specs.layers.Holding.{IsHold}
use Rattle.hold_buffer.proofs.Finite.{contains_retained, len_le}
use Rattle.pitch_fields.proofs.Keys.{same_test}

some_cond : {X : Type 0} (b : Bool) (v : X) (o : Option X) → is_some (cond b (Some v) o) ≡ (b || is_some o)
some_cond true v o = refl
some_cond false v o = refl

none_cond : {X : Type 0} (b : Bool) (o : Option X) → is_some (cond b None o) ≡ (not b && is_some o)
none_cond true o = refl
none_cond false o = refl

-- ---- what is held after each change
pub contains_inserted : (m : Held) (k : ℕ) (v : List ℕ) (q : ℕ) → contains_key (insert m k v) q ≡ (eqb q k || contains_key m q)
contains_inserted m k v q = ap is_some (get-insert nat_cmp_total m k v q) ∙ some_cond (eq_by_cmp nat_cmp q k) v (get m q) ∙ ap (λ b. b || contains_key m q) (same_test q k)

pub contains_removed : (m : Held) (k q : ℕ) → contains_key (remove m k) q ≡ (not (eqb q k) && contains_key m q)
contains_removed m k q = ap is_some (get-remove nat_cmp_total m k q) ∙ none_cond (eq_by_cmp nat_cmp q k) (get m q) ∙ ap (λ b. not b && contains_key m q) (same_test q k)

pub contains_empty : (q : ℕ) → contains_key (empty {X = List ℕ} {R = nat_cmp}) q ≡ false
contains_empty q = ap is_some (get-empty nat_cmp q)

pub get_none : (m : Held) (q : ℕ) → contains_key m q ≡ false → get m q ≡ None
get_none m q e = by (get m q) e
  where
    by : (o : Option (List ℕ)) → is_some o ≡ false → o ≡ None
    by None e = refl
    by (Some v) e = absurd (false≢true (sym e))

-- ---- and that it is a hold
module _ (h : HoldView) (H : IsHold h) where
  pub hold_next : (k : ℕ) → k ≡ h.floor + 1 → contains_key h.held k ≡ false → IsHold (record h { floor = k })
  hold_next k e none = record {
    limited = H.limited;
    few = H.few;
    fits = H.fits;
    above = λ j t.
        let a = H.above j t in
        elim (cases_eq j k) [ inl same ↦ absurd (both_ways _ none (subst (λ i. contains_key h.held i ≡ true) same t)) | inr apart ↦ omega arith ];
  }

  pub hold_kept : (k : ℕ) (v : List ℕ) → k ≤ 4294967294 → h.floor < k → contains_key h.held k ≡ false → len h.held < h.limit → IsHold (record h { held = insert h.held k v })
  hold_kept k v fit above none room = record {
    limited = H.limited;
    few = let e = len-insert nat_cmp_total h.held k v ∙ cond-false (contains_key h.held k) (len h.held) (len h.held + 1) none in omega arith;
    above = λ j t. elim (cases_eq j k) [
      | inl same ↦ omega arith
      | inr apart ↦ let c = contains_inserted h.held k v j in let old : contains_key h.held j ≡ true = grind (arith, nat_tests) in H.above j old
    ];
    fits = λ j t. elim (cases_eq j k) [
      | inl same ↦ omega arith
      | inr apart ↦ let c = contains_inserted h.held k v j in let old : contains_key h.held j ≡ true = grind (arith, nat_tests) in H.fits j old
    ];
  }

  pub hold_alone : (k : ℕ) (v : List ℕ) → k ≤ 4294967294 → h.floor < k → IsHold (record h { held = insert empty k v })
  hold_alone k v fit above = record {
    limited = H.limited;
    few = let e = len-insert nat_cmp_total (empty {X = List ℕ} {R = nat_cmp}) k v ∙ cond-false (contains_key (empty {X = List ℕ} {R = nat_cmp}) k) (len (empty {X = List ℕ} {R = nat_cmp})) (len (empty {X = List ℕ} {R = nat_cmp}) + 1) (contains_empty k) in
        let z = len-empty nat_cmp (List ℕ) in let l = H.limited.0 in omega arith;
    above = λ j t. let c = contains_inserted (empty {X = List ℕ} {R = nat_cmp}) k v j in let n = contains_empty j in let same : j ≡ k = grind (arith, nat_tests) in omega arith;
    fits = λ j t. let c = contains_inserted (empty {X = List ℕ} {R = nat_cmp}) k v j in let n = contains_empty j in let same : j ≡ k = grind (arith, nat_tests) in omega arith;
  }

  pub hold_popped : IsHold (record { floor = h.floor + 1; limit = h.limit; held = remove h.held (h.floor + 1) })
  hold_popped = record {
    limited = H.limited;
    few = let le = len_le (remove h.held (h.floor + 1)) h.held (λ q t. (and_parts (not (eqb q (h.floor + 1))) (contains_key h.held q) (sym (contains_removed h.held (h.floor + 1) q) ∙ t)).1) in let f = H.few in omega arith;
    above = λ j t. let c = contains_removed h.held (h.floor + 1) j in
        let both = and_parts (not (eqb j (h.floor + 1))) (contains_key h.held j) (sym c ∙ t) in
        let a = H.above j both.1 in let apart : j ≢ h.floor + 1 = (let n = both.0 in grind (arith, nat_tests)) in omega arith;
    fits = λ j t. H.fits j (and_parts (not (eqb j (h.floor + 1))) (contains_key h.held j) (sym (contains_removed h.held (h.floor + 1) j) ∙ t)).1;
  }

  pub hold_jumped : (floor : ℕ) → IsHold (record { floor = floor; limit = h.limit; held = retain_keys h.held (λ k. ltb floor k) })
  hold_jumped floor = record {
    limited = H.limited;
    few = let le = len_le (retain_keys h.held (ltb floor)) h.held (λ q t. (and_parts (ltb floor q) (contains_key h.held q) (sym (contains_retained h.held (ltb floor) q) ∙ t)).1) in let f = H.few in omega arith;
    above = λ j t. ltb-true floor j (and_parts (ltb floor j) (contains_key h.held j) (sym (contains_retained h.held (ltb floor) j) ∙ t)).0;
    fits = λ j t. H.fits j (and_parts (ltb floor j) (contains_key h.held j) (sym (contains_retained h.held (ltb floor) j) ∙ t)).1;
  }
