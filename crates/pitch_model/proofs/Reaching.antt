-- How far a part reaches.
use Rattle.std.proofs.Common.{◌≡◌, ℕ, zero, suc, ◌≤◌, Bool, true, false, ◌&&◌, cond, List, [], ◌∷◌, eqb, refl, sym, subst, inl, inr, arith}
use Rattle.std.specs.Set.{is_member}
use Rattle.std.proofs.lemmas.Bool.{or_cases, and_parts, or_left, or_right, and_from, false≢true, eqb-true, eq-eqb, cases_Bool, both_ways, cases_lt, cases_eq}
use Rattle.pitch_model.specs.layers.Settling.{AnchorsUpTo}
use Rattle.pitch_model.specs.Reach.{SinceOverflow, Joined, IsReach, is_anchor, is_seen, is_joined, greatest, largest, top_since, reach_of}

-- ---- the greatest that passes
pub greatest_passes : (p : ℕ → Bool) (n k : ℕ) → k ≤ n → p k ≡ true → p (greatest p n) ≡ true
greatest_passes p zero k h t = let e : k ≡ 0 = omega arith in subst (λ j. p j ≡ true) e t
greatest_passes p (suc n) k h t =
    elim (p (suc n)) as (λ b. p (suc n) ≡ b → p (cond b (suc n) (greatest p n)) ≡ true) [
      | true ↦ λ e. e
      | false ↦ λ e. elim (cases_eq k (suc n)) [
        | inl same ↦ absurd (both_ways _ e (subst (λ j. p j ≡ true) same t))
        | inr other ↦ greatest_passes p n k (omega arith) t
      ]
    ] refl

pub greatest_above : (p : ℕ → Bool) (n k : ℕ) → k ≤ n → p k ≡ true → k ≤ greatest p n
greatest_above p zero k h t = h
greatest_above p (suc n) k h t =
    elim (p (suc n)) as (λ b. p (suc n) ≡ b → k ≤ cond b (suc n) (greatest p n)) [
      | true ↦ λ e. h
      | false ↦ λ e. elim (cases_eq k (suc n)) [
        | inl same ↦ absurd (both_ways _ e (subst (λ j. p j ≡ true) same t))
        | inr other ↦ greatest_above p n k (omega arith) t
      ]
    ] refl

-- ---- members and the largest of a list
pub member_le_largest : (xs : List ℕ) (k : ℕ) → is_member eqb xs k ≡ true → k ≤ largest xs
member_le_largest [] k h = absurd (false≢true h)
member_le_largest (x ∷ xs) k h =
    elim (or_cases (eqb k x) (is_member eqb xs k) h) [
      | inl here ↦ let e = eqb-true k x here in omega arith
      | inr there ↦ let le = member_le_largest xs k there in omega arith
    ]

-- ---- the test and the relation
pub joined_from_test : (P : SinceOverflow) (k : ℕ) → is_joined P k ≡ true → Joined P k
joined_from_test P zero h = record { anchor = 0; is_anchored = h; below = omega arith; run = λ j a b. absurd (omega arith) }
joined_from_test P (suc k) h =
    elim (or_cases (is_anchor P (suc k)) (is_seen P (suc k) && is_joined P k) h) [
      | inl here ↦ record { anchor = suc k; is_anchored = here; below = omega arith; run = λ j a b. absurd (omega arith) }
      | inr there ↦
          let seen = (and_parts (is_seen P (suc k)) (is_joined P k) there).0 in
          let J = joined_from_test P k (and_parts (is_seen P (suc k)) (is_joined P k) there).1 in
          let b = J.below in
          record {
            anchor = J.anchor;
            is_anchored = J.is_anchored;
            below = omega arith;
            run = λ j a b. elim (cases_eq j (suc k)) [ inl same ↦ subst (λ i. is_seen P i ≡ true) (sym same) seen | inr other ↦ J.run j a (omega arith) ];
          }
    ]

pub test_from_joined : (P : SinceOverflow) (k : ℕ) → Joined P k → is_joined P k ≡ true
test_from_joined P zero J = let b = J.below in let e : J.anchor ≡ 0 = omega arith in subst (λ i. is_anchor P i ≡ true) e J.is_anchored
test_from_joined P (suc k) J =
    elim (cases_eq J.anchor (suc k)) [
      | inl same ↦ or_left _ _ (subst (λ i. is_anchor P i ≡ true) same J.is_anchored)
      | inr other ↦
          let b = J.below in
          let seen = J.run (suc k) (omega arith) (omega arith) in
          let rest = test_from_joined P k (record { anchor = J.anchor; is_anchored = J.is_anchored; below = omega arith; run = λ j a b. J.run j a (omega arith) }) in
          or_right _ _ (and_from _ _ seen rest)
    ]

pub anchor_le_top : (P : SinceOverflow) (k : ℕ) → is_anchor P k ≡ true → k ≤ top_since P
anchor_le_top P k h =
    elim (or_cases (eqb k P.base) (is_member eqb P.images k) h) [
      | inl here ↦ let e = eqb-true k P.base here in omega arith
      | inr there ↦ let le = member_le_largest P.images k there in omega arith
    ]

pub joined_le_top : (P : SinceOverflow) (k : ℕ) → Joined P k → k ≤ top_since P
joined_le_top P k J =
    elim (cases_eq J.anchor k) [
      | inl same ↦ anchor_le_top P k (subst (λ i. is_anchor P i ≡ true) same J.is_anchored)
      | inr other ↦
          let b = J.below in
          let le = member_le_largest P.seen k (J.run k (omega arith) (omega arith)) in
          omega arith
    ]

pub base_joined : (P : SinceOverflow) → Joined P P.base
base_joined P = record { anchor = P.base; is_anchored = or_left _ _ (eq-eqb P.base P.base refl); below = omega arith; run = λ j a b. absurd (omega arith) }

-- the reach is the greatest number that is joined
pub reach_is : (P : SinceOverflow) → IsReach P (reach_of P)
unfolding reach_of
reach_is P = record {
  joined = joined_from_test P _ (greatest_passes (is_joined P) (top_since P) P.base (joined_le_top P P.base (base_joined P)) (test_from_joined P P.base (base_joined P)));
  greatest = λ m J. greatest_above (is_joined P) (top_since P) m (joined_le_top P m J) (test_from_joined P m J);
}

-- there is one
pub reach_one : (P : SinceOverflow) (m n : ℕ) → IsReach P m → IsReach P n → m ≡ n
reach_one P m n R S = let a = R.greatest n S.joined in let b = S.greatest m R.joined in omega arith

-- a joined number above which there is no anchor, and whose next was not seen, is the reach
pub reach_stops : (P : SinceOverflow) (n : ℕ) → Joined P n → AnchorsUpTo P n → is_seen P (suc n) ≡ false → reach_of P ≡ n
reach_stops P n J anchors gap = reach_one P _ n (reach_is P) (record {
  joined = J;
  greatest = λ m K. elim (cases_lt n m) [
    | inl past ↦ let a = anchors K.anchor K.is_anchored in absurd (both_ways _ gap (K.run (suc n) (omega arith) (omega arith)))
    | inr within ↦ within
  ];
})

pub joined_reach : (P : SinceOverflow) → Joined P (reach_of P)
joined_reach P = (reach_is P).joined

-- every anchor is at most the reach
pub anchors_up_to_reach : (P : SinceOverflow) → AnchorsUpTo P (reach_of P)
anchors_up_to_reach P s h = (reach_is P).greatest s (record { anchor = s; is_anchored = h; below = omega arith; run = λ j a b. absurd (omega arith) })

-- what follows the reach was not seen
pub next_unseen : (P : SinceOverflow) → is_seen P (suc (reach_of P)) ≡ false
next_unseen P =
    elim (cases_Bool (is_seen P (suc (reach_of P)))) [
      | inl seen ↦
          let J = joined_reach P in let b = J.below in
          let K : Joined P (suc (reach_of P)) = record { anchor = J.anchor; is_anchored = J.is_anchored; below = omega arith; run = λ j a b. elim (cases_eq j (suc (reach_of P))) [ inl same ↦ subst (λ i. is_seen P i ≡ true) (sym same) seen | inr other ↦ J.run j a (omega arith) ] } in
          let le = (reach_is P).greatest _ K in absurd (omega arith)
      | inr unseen ↦ unseen
    ]
