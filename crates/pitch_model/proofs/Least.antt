-- The least of the held sequences.
use Rattle.std.proofs.Common.{◌≡◌, ℕ, ◌≤◌, Bool, true, false, ◌&&◌, ◌||◌, List, [], ◌∷◌, eqb, ltb, min, refl, sym, ap, ◌∙◌, subst, inl, inr, arith, Option, Some, None}
use Rattle.std.specs.Option.{option_map_or}
use Rattle.std.specs.Set.{is_member}
use Rattle.std.specs.Cmp.{nat_eq_equiv}
use Rattle.std.proofs.lemmas.Map.Made.{is_member-filter}
use Rattle.std.proofs.lemmas.Bool.{or_cases, or_left, or_right, false≢true, both_ways, eqb-true, eq-eqb, cases_lt}
use Rattle.std.proofs.lemmas.Option.{none-some, same_Some}
use Rattle.pitch_model.specs.Reach.{SinceOverflow, is_seen, reach_of, held_of}
use Rattle.pitch_model.specs.Asking.{least_of}

-- what least_of gives is a member
pub least_member : (ks : List ℕ) (m : ℕ) → least_of ks ≡ Some m → is_member eqb ks m ≡ true
least_member [] m e = absurd (none-some m e)
least_member (k ∷ ks) m e = by (λ l f. least_member ks l f) (least_of ks) refl e
  where
    by : ((l : ℕ) → least_of ks ≡ Some l → is_member eqb ks l ≡ true) → (o : Option ℕ) → least_of ks ≡ o → Some (option_map_or (min k) o k) ≡ Some m → (eqb m k || is_member eqb ks m) ≡ true
    by rec None f e = let same : k ≡ m = cc in or_left (eqb m k) (is_member eqb ks m) (eq-eqb m k (sym same))
    by rec (Some l) f e =
        let is : min k l ≡ m = cc in
        let there = rec l f in
        elim (cases_lt k l) [
          | inl less ↦ or_left (eqb m k) (is_member eqb ks m) (eq-eqb m k (omega arith))
          | inr more ↦ or_right (eqb m k) (is_member eqb ks m) (let same : l ≡ m = omega arith in subst (λ n. is_member eqb ks n ≡ true) same there)
        ]

-- and there is one, at most each member
pub least_there : (ks : List ℕ) (k : ℕ) → is_member eqb ks k ≡ true → (m : ℕ) × (least_of ks ≡ Some m) × (m ≤ k)
least_there [] k t = absurd (false≢true t)
least_there (x ∷ ks) k t = by (λ u. least_there ks k u) (least_of ks) refl
  where
    by : (is_member eqb ks k ≡ true → (m : ℕ) × (least_of ks ≡ Some m) × (m ≤ k)) → (o : Option ℕ) → least_of ks ≡ o → (m : ℕ) × (Some (option_map_or (min x) o x) ≡ Some m) × (m ≤ k)
    by rec None f = (
      x,
      refl,
      elim (or_cases (eqb k x) (is_member eqb ks k) t) [
        | inl here ↦ let e = eqb-true k x here in omega arith
        | inr there ↦ let r = rec there in absurd (none-some r.0 (sym f ∙ r.1))
      ],
    )
    by rec (Some l) f = (
      min x l,
      refl,
      elim (or_cases (eqb k x) (is_member eqb ks k) t) [
        | inl here ↦ let e = eqb-true k x here in omega arith
        | inr there ↦ let r = rec there in let same : l ≡ r.0 = same_Some l r.0 (sym f ∙ r.1) in let le = r.2 in omega arith
      ],
    )

pub least_some : (ks : List ℕ) (m : ℕ) → is_member eqb ks m ≡ true → ((k : ℕ) → is_member eqb ks k ≡ true → m ≤ k) → least_of ks ≡ Some m
least_some ks m t h =
    let r = least_there ks m t in
    let le = h r.0 (least_member ks r.0 r.1) in
    let same : r.0 ≡ m = (let a = r.2 in omega arith) in
    r.1 ∙ ap Some same

pub least_none : (ks : List ℕ) → ((k : ℕ) → is_member eqb ks k ≡ false) → least_of ks ≡ None
least_none [] h = refl
least_none (k ∷ ks) h = absurd (both_ways _ (h k) (or_left (eqb k k) (is_member eqb ks k) (eq-eqb k k refl)))

-- what is held, as a list
pub member_held : (P : SinceOverflow) (q : ℕ) → is_member eqb (held_of P) q ≡ (ltb (reach_of P) q && is_seen P q)
member_held P q = is_member-filter nat_eq_equiv (ltb (reach_of P)) q (λ x e. ap (ltb (reach_of P)) (eqb-true q x e)) P.seen ∙ swapped (is_seen P q) (ltb (reach_of P) q)
  where
    swapped : (a b : Bool) → (a && b) ≡ (b && a)
    swapped true true = refl
    swapped true false = refl
    swapped false true = refl
    swapped false false = refl
