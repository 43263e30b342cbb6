-- What each kind of entry does to a part, against a floor n and a hold of which `has` says what
-- sequences it has.
use Rattle.std.proofs.Common.{◌≡◌, ◌≢◌, ℕ, suc, ◌≤◌, ◌<◌, Bool, true, false, ◌&&◌, ◌||◌, not, List, [], ◌∷◌, length, eqb, ltb, refl, sym, ap, ◌∙◌, subst, inl, inr, ◌⊎◌, arith}
use Rattle.std.specs.Set.{is_member}
use Rattle.std.specs.Cmp.{nat_eq_equiv}
use Rattle.std.specs.List.{IsDistinct}
use Rattle.std.proofs.lemmas.Map.Made.{length-from_keys, is_member-filter}
use Rattle.std.proofs.lemmas.Bool.{or_cases, and_parts, or_from, or_left, or_right, and_right, false≢true, eqb-true, eq-eqb, ne_eqb, lt-ltb, both_ways, cases_eq}
use Rattle.std.proofs.lemmas.Bool.Decides.{nat_tests}
use Rattle.pitch_model.specs.Reach.{SinceOverflow, Joined, is_anchor, is_seen, grown, reach_of, held_of, held_count}
use Rattle.pitch_model.specs.layers.Settling.{AnchorsUpTo, Settled, Draining}
use Rattle.pitch_model.proofs.Reaching.{reach_stops, joined_reach, anchors_up_to_reach, next_unseen}

pub drained : (P : SinceOverflow) (n : ℕ) (has : ℕ → Bool) → Draining P n has → has (suc n) ≡ false → Settled P n has
drained P n has D none = record {
  reach = reach_stops P n D.joined D.anchors (let e = D.held (suc n) in let l = lt-ltb n (suc n) (omega arith) in grind (arith, nat_tests));
  held = D.held;
}

pub draining : (P : SinceOverflow) (n : ℕ) (has : ℕ → Bool) → Settled P n has → Draining P n has
draining P n has S = record {
  joined = subst (Joined P) S.reach (joined_reach P);
  anchors = subst (AnchorsUpTo P) S.reach (anchors_up_to_reach P);
  held = S.held;
}

pub gap : (P : SinceOverflow) (n : ℕ) (has : ℕ → Bool) → Settled P n has → is_seen P (suc n) ≡ false
gap P n has S = subst (λ m. is_seen P (suc m) ≡ false) S.reach (next_unseen P)

pub next_not_held : (P : SinceOverflow) (n : ℕ) (has : ℕ → Bool) → Settled P n has → has (suc n) ≡ false
next_not_held P n has S = let g = gap P n has S in S.held (suc n) ∙ and_right (ltb n (suc n)) (is_seen P (suc n)) g

-- one more is joined, where it was seen
pub joined_more : (P : SinceOverflow) (n : ℕ) → Joined P n → is_seen P (suc n) ≡ true → Joined P (suc n)
joined_more P n J seen = let b = J.below in record {
  anchor = J.anchor;
  is_anchored = J.is_anchored;
  below = omega arith;
  run = λ j a b. elim (cases_eq j (suc n)) [ inl same ↦ subst (λ i. is_seen P i ≡ true) (sym same) seen | inr other ↦ J.run j a (omega arith) ];
}

-- the next held message is taken out, and the floor rises
pub popped : (P : SinceOverflow) (n : ℕ) (has has' : ℕ → Bool) → Draining P n has → has (suc n) ≡ true → ((k : ℕ) → has' k ≡ (not (eqb k (suc n)) && has k)) → Draining P (suc n) has'
popped P n has has' D is_next out =
    let seen = (and_parts (ltb n (suc n)) (is_seen P (suc n)) (sym (D.held (suc n)) ∙ is_next)).1 in record {
      joined = joined_more P n D.joined seen;
      anchors = λ s h. let a = D.anchors s h in omega arith;
      held = λ k. let h = D.held k in let o = out k in grind (arith, nat_tests);
    }

-- what was joined stays so, as more is seen
pub joined_grown : (P : SinceOverflow) (ks : List ℕ) (k n : ℕ) → Joined P n → Joined (grown P [] (k ∷ [])) n
joined_grown P ks k n J = record { anchor = J.anchor; is_anchored = J.is_anchored; below = J.below; run = λ j a b. or_right (eqb j k) (is_seen P j) (J.run j a b) }

module _ (P : SinceOverflow) (n k : ℕ) (has : ℕ → Bool) (S : Settled P n has) where
  settled_grown : (has' : ℕ → Bool) → k ≢ suc n → ((j : ℕ) → has' j ≡ (ltb n j && (eqb j k || is_seen P j))) → Settled (grown P [] (k ∷ [])) n has'
  settled_grown has' other held' =
      let D = draining P n has S in
      let g = gap P n has S in
      record {
        reach = reach_stops (grown P [] (k ∷ [])) n (joined_grown P [] k n D.joined) D.anchors (or_from (eqb (suc n) k) (is_seen P (suc n)) (ne_eqb (suc n) k (λ e. other (sym e))) g);
        held = held';
      }

  -- a message at or below the floor
  pub step_old : k ≤ n → Settled (grown P [] (k ∷ [])) n has
  step_old old = settled_grown has (omega arith) (λ j. let h = S.held j in grind (arith, nat_tests))

  -- one that is held
  pub step_repeat : has k ≡ true → Settled (grown P [] (k ∷ [])) n has
  step_repeat held = settled_grown has (λ e. both_ways _ (next_not_held P n has S) (subst (λ i. has i ≡ true) e held))
      (λ j. let h = S.held j in let hk = S.held k in elim (cases_eq j k) [
        | inl same ↦ grind (arith, nat_tests)
        | inr apart ↦ grind (arith, nat_tests)
      ])

  -- the next one
  pub step_next : k ≡ suc n → Draining (grown P [] (k ∷ [])) k has
  step_next e =
      let D = draining P n has S in
      record {
        joined = let J = joined_more (grown P [] (k ∷ [])) n (joined_grown P [] k n D.joined) (or_left (eqb (suc n) k) (is_seen P (suc n)) (eq-eqb (suc n) k (sym e))) in subst (Joined (grown P [] (k ∷ []))) (sym e) J;
        anchors = λ s h. let a = D.anchors s h in omega arith;
        held = λ j. let h = S.held j in let none = next_not_held P n has S in elim (cases_eq j k) [
          | inl same ↦ grind (arith, nat_tests)
          | inr apart ↦ grind (arith, nat_tests)
        ];
      }

  -- another fresh one is held
  pub step_kept : (has' : ℕ → Bool) → suc n < k → ((j : ℕ) → has' j ≡ (eqb j k || has j)) → Settled (grown P [] (k ∷ [])) n has'
  step_kept has' fresh more = settled_grown has' (omega arith) (λ j. let h = S.held j in let m = more j in grind (arith, nat_tests))

  -- the hold overflows
  pub step_overflow : (has' : ℕ → Bool) → suc n < k → ((j : ℕ) → has' j ≡ eqb j k) → Settled (record { base = reach_of (grown P [] (k ∷ [])); images = []; seen = k ∷ [] }) n has'
  step_overflow has' fresh alone =
      let still = settled_grown (λ j. ltb n j && (eqb j k || is_seen P j)) (omega arith) (λ j. refl) in
      let Q : SinceOverflow = record { base = reach_of (grown P [] (k ∷ [])); images = []; seen = k ∷ [] } in
      let base_is : Q.base ≡ n = still.reach in
      record {
        reach = reach_stops Q n
            (record { anchor = n; is_anchored = or_left (eqb n Q.base) false (eq-eqb n Q.base (sym base_is)); below = omega arith; run = λ j a b. absurd (omega arith) })
            (λ s h. let e = eqb-true s Q.base (elim (or_cases (eqb s Q.base) false h) [ inl y ↦ y | inr y ↦ absurd (false≢true y) ]) in omega arith)
            (or_from (eqb (suc n) k) false (ne_eqb (suc n) k (λ e. omega arith)) refl);
        held = λ j. let a = alone j in grind (arith, nat_tests);
      }

-- ---- images
-- an anchor of the part with one more image
image_or_old : (P : SinceOverflow) (s x : ℕ) → is_anchor (grown P (s ∷ []) []) x ≡ true → (x ≡ s) ⊎ (is_anchor P x ≡ true)
image_or_old P s x h =
    elim (or_cases (eqb x P.base) (eqb x s || is_member eqb P.images x) h) [
      | inl base ↦ inr (or_left (eqb x P.base) (is_member eqb P.images x) base)
      | inr later ↦ elim (or_cases (eqb x s) (is_member eqb P.images x) later) [
        | inl image ↦ inl (eqb-true x s image)
        | inr old ↦ inr (or_right (eqb x P.base) (is_member eqb P.images x) old)
      ]
    ]

anchor_more : (P : SinceOverflow) (s x : ℕ) → is_anchor P x ≡ true → is_anchor (grown P (s ∷ []) []) x ≡ true
anchor_more P s x h =
    elim (or_cases (eqb x P.base) (is_member eqb P.images x) h) [
      | inl base ↦ or_left (eqb x P.base) (eqb x s || is_member eqb P.images x) base
      | inr old ↦ or_right (eqb x P.base) (eqb x s || is_member eqb P.images x) (or_right (eqb x s) (is_member eqb P.images x) old)
    ]

module _ (P : SinceOverflow) (n s : ℕ) (has : ℕ → Bool) (S : Settled P n has) where
  -- a finished image at or below the floor
  pub step_stale : s ≤ n → Settled (grown P (s ∷ []) []) n has
  step_stale old =
      let D = draining P n has S in
      let J = D.joined in
      record {
        reach = reach_stops (grown P (s ∷ []) []) n
            (record { anchor = J.anchor; is_anchored = anchor_more P s J.anchor J.is_anchored; below = J.below; run = J.run })
            (λ x h. elim (image_or_old P s x h) [ inl same ↦ omega arith | inr older ↦ D.anchors x older ])
            (gap P n has S);
        held = S.held;
      }

  -- one above it
  pub step_taken : (has' : ℕ → Bool) → n < s → ((j : ℕ) → has' j ≡ (ltb s j && has j)) → Draining (grown P (s ∷ []) []) s has'
  step_taken has' fresh kept =
      let D = draining P n has S in
      record {
        joined = record { anchor = s; is_anchored = or_right (eqb s P.base) (eqb s s || is_member eqb P.images s) (or_left (eqb s s) (is_member eqb P.images s) (eq-eqb s s refl)); below = omega arith; run = λ j a b. absurd (omega arith) };
        anchors = λ x h. elim (image_or_old P s x h) [ inl same ↦ omega arith | inr older ↦ let le = D.anchors x older in omega arith ];
        held = λ j. let h = S.held j in let m = kept j in grind (arith, nat_tests);
      }

-- ---- how many are held
-- the hold's sequences, each once
pub held_count_is : (P : SinceOverflow) (n : ℕ) (has : ℕ → Bool) → Settled P n has → (ks : List ℕ) → IsDistinct eqb ks → ((k : ℕ) → is_member eqb ks k ≡ has k) → length ks ≡ held_count P
unfolding held_count
held_count_is P n has S ks distinct same =
    length-from_keys nat_eq_equiv ks (held_of P) distinct (λ q. same q ∙ S.held q ∙ and_swapped n (reach_of P) q (is_seen P q) S.reach
    ∙ sym (is_member-filter nat_eq_equiv (ltb (reach_of P)) q (λ x e. ap (ltb (reach_of P)) (eqb-true q x e)) P.seen))
  where
    and_swapped : (n r q : ℕ) (b : Bool) → r ≡ n → (ltb n q && b) ≡ (b && ltb r q)
    and_swapped n r q b e = grind (arith, nat_tests)
