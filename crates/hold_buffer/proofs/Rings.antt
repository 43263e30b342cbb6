-- Entries by rising sequence as a finite map.
use Rattle.std.proofs.Common.{◌≡◌, ℕ, zero, suc, ◌+◌, ◌<◌, ◌≤◌, Bool, true, false, cond, List, [], ◌∷◌, length, drop, refl, sym, ap, ◌∙◌, subst, arith, Some, None, slice_get, inl, inr, ◌-◌, ltb, filter}
use Rattle.std.specs.Ordering.{nat_cmp, eq_by_cmp}
use Rattle.std.specs.declared.cmp.Ordering.TheVariants.{Less, Equal, Greater}
use Rattle.std.specs.Cmp.{nat_cmp_total, eq_by_cmp_equiv, nat_cmp_is}
use Rattle.std.specs.Option.{is_some}
use Rattle.std.specs.List.{insert, AllByRecursion}
use Rattle.std.specs.List.Sorted.{IsStrictlySortedBy}
use Rattle.std.specs.Map.{lookup, keys_of}
use Rattle.std.specs.BTreeMap.{is_at}
use Rattle.std.specs.FinMap as map
use Rattle.std.proofs.lemmas.Map.{lookup-insert, none_passes_from_lookup}
use Rattle.std.proofs.lemmas.Map.Keys.{IsDistinct-from_sorted}
use Rattle.std.proofs.lemmas.Map.Entries.{lookup_from_place, lookup_at_gap, lookup-filter-keys, lookup_tail}
use Rattle.std.proofs.lemmas.Bool.{cases_eq, cond-true, cond-false, eqb-true}
use Rattle.std.proofs.lemmas.List.Kept.{IsStrictlySortedBy-filter}
use Rattle.std.proofs.lemmas.Option.{slice_get_within}
use Rattle.circular_buffer.proofs.Places.{slice_get-some}
use Rattle.std.proofs.lemmas.Bool.Decides.{nat_tests}
use Rattle.pitch_fields.proofs.Keys.{same_test, greater}
use Rattle.hold_buffer.proofs.Viewed.{get_view, inserted, removed, retained}
use Rattle.hold_buffer.specs.layers.Places.{IsKeyAt, IsGap}

less : (a b : ℕ) → a < b → nat_cmp a b ≡ Less
less a b h = sym (nat_cmp_is a b Less h)

pub below : (a b : ℕ) → nat_cmp a b ≡ Less → a < b
below a b e = grind (arith, nat_tests)

pub above : (a b : ℕ) → nat_cmp a b ≡ Greater → b < a
above a b e = grind (arith, nat_tests)

pub same : (a b : ℕ) → nat_cmp a b ≡ Equal → a ≡ b
same a b e = grind (arith, nat_tests)

all_above : (a b : ℕ) (ks : List ℕ) → a < b → AllByRecursion (λ y. nat_cmp b y ≡ Less) ks → AllByRecursion (λ y. nat_cmp a y ≡ Less) ks
all_above a b [] h all = tt
all_above a b (k ∷ ks) h all = (let l = below b k all.0 in less a k (omega arith), all_above a b ks h all.1)

module _ {X : Type 0} where
  -- a fact of every key is one of the key at a place
  all_at : (P : ℕ → Type 0) (es : List (ℕ × X)) (j : ℕ) (f : ℕ × X) → AllByRecursion P (keys_of es) → slice_get es j ≡ Some f → P f.0
  all_at P [] zero f all at = absurd (cc)
  all_at P [] (suc j) f all at = absurd (cc)
  all_at P (x ∷ es) zero f all at = let e : x ≡ f = cc in subst (λ (p : ℕ × X). P p.0) e all.0
  all_at P (x ∷ es) (suc j) f all at = all_at P es j f all.1 at

  -- a later message has a greater sequence
  pub rises : (es : List (ℕ × X)) (i j : ℕ) (e f : ℕ × X) → IsStrictlySortedBy nat_cmp (keys_of es) → i < j → slice_get es i ≡ Some e → slice_get es j ≡ Some f → e.0 < f.0
  unfolding IsStrictlySortedBy
  rises [] zero j e f sorted lt at at' = absurd (cc)
  rises [] (suc i) j e f sorted lt at at' = absurd (cc)
  rises (x ∷ es) i zero e f sorted lt at at' = absurd (omega arith)
  rises (x ∷ es) zero (suc j) e f sorted lt at at' =
      let here : x ≡ e = cc in
      subst (λ (p : ℕ × X). p.0 < f.0) here (below x.0 f.0 (all_at (λ y. nat_cmp x.0 y ≡ Less) es j f sorted.0 at'))
  rises (x ∷ es) (suc i) (suc j) e f sorted lt at at' = rises es i j e f sorted.1 (omega arith) at at'

  pub rises_or_stays : (es : List (ℕ × X)) (i j : ℕ) (e f : ℕ × X) → IsStrictlySortedBy nat_cmp (keys_of es) → i ≤ j → slice_get es i ≡ Some e → slice_get es j ≡ Some f → e.0 ≤ f.0
  rises_or_stays es i j e f sorted le at at' = elim (cases_eq i j) [
    | inl here ↦ let at'' = subst (λ i. slice_get es i ≡ Some e) here at in let one : e ≡ f = cc in let k : e.0 ≡ f.0 = ap (λ (p : ℕ × X). p.0) one in omega arith
    | inr apart ↦ let lt = rises es i j e f sorted (omega arith) at at' in omega arith
  ]

  pub found_at : (es : List (ℕ × X)) (i k : ℕ) (v : X) → IsStrictlySortedBy nat_cmp (keys_of es) → slice_get es i ≡ Some (k, v) → map.get (map.from_entries {R = nat_cmp} es) k ≡ Some v
  found_at es i k v sorted at = get_view es k ∙ lookup_from_place (eq_by_cmp_equiv nat_cmp_total) es i k v (IsDistinct-from_sorted nat_cmp (keys_of es) sorted) at

  pub found_contains : (es : List (ℕ × X)) (i k : ℕ) → IsStrictlySortedBy nat_cmp (keys_of es) → IsKeyAt es i k → map.contains_key (map.from_entries {R = nat_cmp} es) k ≡ true
  found_contains es i k sorted at = ap is_some (found_at es i k at.0 sorted at.1)

  pub gap_absent : (es : List (ℕ × X)) (i k : ℕ) → IsStrictlySortedBy nat_cmp (keys_of es) → IsGap es i k → lookup (is_at (nat_cmp k)) es ≡ None
  gap_absent es i k sorted gap = lookup_at_gap nat_cmp_total k es i sorted (λ j e lt at. greater k e.0 (gap.1 j e lt at)) (λ e at. less k e.0 (gap.2 e at))

  pub gap_unheld : (es : List (ℕ × X)) (i k : ℕ) → IsStrictlySortedBy nat_cmp (keys_of es) → IsGap es i k → map.contains_key (map.from_entries {R = nat_cmp} es) k ≡ false
  gap_unheld es i k sorted gap = ap is_some (get_view es k ∙ gap_absent es i k sorted gap)

  pub insert_gap : (es : List (ℕ × X)) (i k : ℕ) (v : X) → IsStrictlySortedBy nat_cmp (keys_of es) → IsGap es i k → map.from_entries {R = nat_cmp} (insert es i (k, v)) ≡ map.insert (map.from_entries es) k v
  insert_gap es i k v sorted gap = inserted es (insert es i (k, v)) k v (λ q. lookup-insert (eq_by_cmp_equiv nat_cmp_total) k v q es i (none_passes_from_lookup (eq_by_cmp nat_cmp k) es (gap_absent es i k sorted gap)))

  -- what is left without the messages through a sequence
  drop_through : (es : List (ℕ × X)) (n k : ℕ) → ((j : ℕ) (e : ℕ × X) → j < n → slice_get es j ≡ Some e → e.0 ≤ k) → ((j : ℕ) (e : ℕ × X) → n ≤ j → slice_get es j ≡ Some e → k < e.0) → drop n es ≡ filter (λ e. ltb k e.0) es
  drop_through [] zero k low high = refl
  drop_through [] (suc n) k low high = refl
  drop_through (x ∷ es) zero k low high =
      let more = drop_through es zero k (λ j e lt at. absurd (omega arith)) (λ j e le at. high (suc j) e (omega arith) at) in
      let here : ltb k x.0 ≡ true = (let lt = high 0 x (omega arith) refl in grind (arith, nat_tests)) in
      ap (λ r. x ∷ r) more ∙ sym (cond-true (ltb k x.0) _ _ here)
  drop_through (x ∷ es) (suc n) k low high =
      let more = drop_through es n k (λ j e lt at. low (suc j) e (omega arith) at) (λ j e le at. high (suc j) e (omega arith) at) in
      let here : ltb k x.0 ≡ false = (let le = low 0 x (omega arith) refl in grind (arith, nat_tests)) in
      more ∙ sym (cond-false (ltb k x.0) _ _ here)

  pub drop_found : (es : List (ℕ × X)) (i k : ℕ) → IsStrictlySortedBy nat_cmp (keys_of es) → IsKeyAt es i k → drop (i + 1) es ≡ filter (λ e. ltb k e.0) es
  drop_found es i k sorted found = drop_through es (i + 1) k
      (λ j e lt at. rises_or_stays es j i e (k, found.0) sorted (omega arith) at found.1)
      (λ j e le at. rises es i j (k, found.0) e sorted (omega arith) found.1 at)

  pub drop_gap : (es : List (ℕ × X)) (i k : ℕ) → IsStrictlySortedBy nat_cmp (keys_of es) → IsGap es i k → drop i es ≡ filter (λ e. ltb k e.0) es
  drop_gap es i k sorted gap = drop_through es i k
      (λ j e lt at. let l = gap.1 j e lt at in omega arith)
      (λ j e le at.
      let within = slice_get_within es j e at in
      let found = slice_get-some es i (omega arith) in
      let high = gap.2 found.0 found.1 in
      let up = rises_or_stays es i j found.0 e sorted le found.1 at in omega arith)

  filter_keys : (p : ℕ → Bool) (es : List (ℕ × X)) → keys_of (filter (λ e. p e.0) es) ≡ filter p (keys_of es)
  filter_keys p [] = refl
  filter_keys p (e ∷ es) = by (p e.0) (filter_keys p es)
    where
      by : (b : Bool) → keys_of (filter (λ e. p e.0) es) ≡ filter p (keys_of es) → keys_of (cond b (e ∷ filter (λ e. p e.0) es) (filter (λ e. p e.0) es)) ≡ cond b (e.0 ∷ filter p (keys_of es)) (filter p (keys_of es))
      by true more = ap (λ ks. e.0 ∷ ks) more
      by false more = more

  pub sorted_filter : (p : ℕ → Bool) (es : List (ℕ × X)) → IsStrictlySortedBy nat_cmp (keys_of es) → IsStrictlySortedBy nat_cmp (keys_of (filter (λ e. p e.0) es))
  sorted_filter p es sorted = subst (IsStrictlySortedBy nat_cmp) (sym (filter_keys p es)) (IsStrictlySortedBy-filter nat_cmp p (keys_of es) sorted)

  -- the map that is left where the messages through a sequence go
  pub filter_retained : (es : List (ℕ × X)) (k : ℕ) → map.from_entries {R = nat_cmp} (filter (λ e. ltb k e.0) es) ≡ map.retain_keys (map.from_entries es) (λ q. ltb k q)
  filter_retained es k = retained es (filter (λ e. ltb k e.0) es) (λ q. ltb k q) (λ q.
      lookup-filter-keys (is_at (nat_cmp q)) (λ x. ltb k x) (ltb k q) (λ x e. ap (ltb k) (sym (eqb-true q x (sym (same_test q x) ∙ e)))) es)

  tail_gap : (es : List (ℕ × X)) (k : ℕ) (v : X) → IsStrictlySortedBy nat_cmp (keys_of es) → slice_get es 0 ≡ Some (k, v) → IsGap (drop 1 es) 0 k
  tail_gap [] k v sorted at = absurd (cc)
  tail_gap (x ∷ es) k v sorted at = (omega arith, λ j e lt at'. absurd (omega arith), λ e at'. rises (x ∷ es) 0 1 (k, v) e sorted (omega arith) at at')

  pub sorted_tail : (es : List (ℕ × X)) → IsStrictlySortedBy nat_cmp (keys_of es) → IsStrictlySortedBy nat_cmp (keys_of (drop 1 es))
  unfolding IsStrictlySortedBy
  sorted_tail [] sorted = tt
  sorted_tail (x ∷ es) sorted = sorted.1

  -- the map that is left without the first message
  pub tail_removed : (es : List (ℕ × X)) (k : ℕ) (v : X) → IsStrictlySortedBy nat_cmp (keys_of es) → slice_get es 0 ≡ Some (k, v) → map.from_entries {R = nat_cmp} (drop 1 es) ≡ map.remove (map.from_entries es) k
  tail_removed es k v sorted at = removed es (drop 1 es) k (λ q. by es (gap_absent (drop 1 es) 0 k (sorted_tail es sorted) (tail_gap es k v sorted at)) at q)
    where
      by : (es : List (ℕ × X)) → lookup (is_at (nat_cmp k)) (drop 1 es) ≡ None → slice_get es 0 ≡ Some (k, v) → (q : ℕ) → lookup (is_at (nat_cmp q)) (drop 1 es) ≡ cond (is_at (nat_cmp k) q) None (lookup (is_at (nat_cmp q)) es)
      by [] absent at q = absurd (cc)
      by (x ∷ es) absent at q =
          let key : x.0 ≡ k = (let one : x ≡ (k, v) = cc in ap (λ (p : ℕ × X). p.0) one) in
          elim (cases_eq q k) [
            | inl here ↦
                let gone : lookup (is_at (nat_cmp q)) es ≡ None = subst (λ i. lookup (is_at (nat_cmp i)) es ≡ None) (sym here) absent in
                let hit : is_at (nat_cmp k) q ≡ true = (let t = same_test k q in grind (arith, nat_tests)) in
                gone ∙ sym (cond-true (is_at (nat_cmp k) q) None (lookup (is_at (nat_cmp q)) (x ∷ es)) hit)
            | inr apart ↦
                let miss : is_at (nat_cmp k) q ≡ false = (let t = same_test k q in grind (arith, nat_tests)) in
                let past : is_at (nat_cmp q) x.0 ≡ false = (let t = same_test q x.0 in grind (arith, nat_tests)) in
                sym (cond-false (is_at (nat_cmp k) q) None (lookup (is_at (nat_cmp q)) (x ∷ es)) miss ∙ lookup_tail (is_at (nat_cmp q)) x es past)
          ]

  all_insert : (P : ℕ → Type 0) (es : List (ℕ × X)) (i k : ℕ) (v : X) → AllByRecursion P (keys_of es) → P k → AllByRecursion P (keys_of (insert es i (k, v)))
  all_insert P es zero k v all p = (p, all)
  all_insert P [] (suc i) k v all p = (p, tt)
  all_insert P (e ∷ es) (suc i) k v all p = (all.0, all_insert P es i k v all.1 p)

  pub sorted_insert : (es : List (ℕ × X)) (i k : ℕ) (v : X) → IsStrictlySortedBy nat_cmp (keys_of es) → IsGap es i k → IsStrictlySortedBy nat_cmp (keys_of (insert es i (k, v)))
  unfolding IsStrictlySortedBy
  sorted_insert [] zero k v sorted gap = (tt, tt)
  sorted_insert [] (suc i) k v sorted gap = (tt, tt)
  sorted_insert (e ∷ es) zero k v sorted gap = let l = gap.2 e refl in ((less k e.0 l, all_above k e.0 (keys_of es) l sorted.0), sorted)
  sorted_insert (e ∷ es) (suc i) k v sorted gap = (
    all_insert (λ y. nat_cmp e.0 y ≡ Less) es i k v sorted.0 (less e.0 k (gap.1 0 e (omega arith) refl)),
    sorted_insert es i k v sorted.1 (let g = gap.0 in omega arith, λ j f lt at. gap.1 (suc j) f (omega arith) at, λ f at. gap.2 f at),
  )

  pub one_sorted : (k : ℕ) (v : X) → IsStrictlySortedBy nat_cmp (keys_of ((k, v) ∷ []))
  unfolding IsStrictlySortedBy
  one_sorted k v = (tt, tt)

  pub none_sorted : (es : List (ℕ × X)) → es ≡ [] → IsStrictlySortedBy nat_cmp (keys_of es)
  unfolding IsStrictlySortedBy
  none_sorted es e = subst (λ (es : List (ℕ × X)). IsStrictlySortedBy nat_cmp (keys_of es)) (sym e) tt

  -- a sequence above the last one goes to the back
  pub back_gap : (es : List (ℕ × X)) (k : ℕ) → IsStrictlySortedBy nat_cmp (keys_of es) → ((e : ℕ × X) → slice_get es (length es - 1) ≡ Some e → e.0 < k) → IsGap es (length es) k
  back_gap es k sorted last = (
    omega arith,
    λ j e lt at. elim (cases_eq j (length es - 1)) [
      | inl same ↦ last e (subst (λ i. slice_get es i ≡ Some e) same at)
      | inr apart ↦
          let found = slice_get-some es (length es - 1) (omega arith) in
          let a = rises es j (length es - 1) e found.0 sorted (omega arith) at found.1 in
          let b = last found.0 found.1 in omega arith
    ],
    λ e at. let w = slice_get_within es (length es) e at in absurd (omega arith),
  )
