-- What stands in the places of a table.
use Rattle.std.proofs.Common.{◌≡◌, ◌≢◌, ℕ, zero, suc, ◌⊎◌, inl, inr, List, [], ◌∷◌, refl, sym, ◌∙◌, subst, arith, Option, Some, None, slice_get}
use Rattle.std.proofs.Math.ListN.{set, length-set}
use Rattle.std.proofs.lemmas.Option.{none-some}
use Rattle.unit_clients.specs.Tables.{AtEach}

-- ---- A list in which one element was set
-- what stands at a place of it
get_set : {X : Type 0} (xs : List X) (i q : ℕ) (y r : X) → slice_get (set xs i y) q ≡ Some r → ((q ≡ i) × (r ≡ y)) ⊎ ((q ≢ i) × (slice_get xs q ≡ Some r))
get_set [] i q y r e = absurd (none-some r e)
get_set (x ∷ xs) zero zero y r e = inl (refl, cc)
get_set (x ∷ xs) zero (suc q) y r e = inr ((λ same. omega arith), e)
get_set (x ∷ xs) (suc i) zero y r e = inr ((λ same. omega arith), e)
get_set (x ∷ xs) (suc i) (suc q) y r e = elim (get_set xs i q y r e) [
  | inl here ↦ inl (omega (arith, here.0), here.1)
  | inr other ↦ inr ((λ same. other.0 (omega arith)), other.1)
]

-- what was set stands there
pub set_there : {X : Type 0} (xs : List X) (i : ℕ) (y r : X) → slice_get xs i ≡ Some r → slice_get (set xs i y) i ≡ Some y
set_there [] i y r e = absurd (none-some r e)
set_there (x ∷ xs) zero y r e = refl
set_there (x ∷ xs) (suc i) y r e = set_there xs i y r e

-- ---- Places
-- what holds of the place of one unit that was left so, and of all others as they were, holds of each
pub each_set : {T : Type 0} (P P' : ℕ → Option T → Type 0) (places : List (Option T)) (u : ℕ) (place : Option T)
    → AtEach P places → ((unit : ℕ) (other : Option T) → unit ≢ u → P unit other → P' unit other) → P' u place → AtEach P' (set places u place)
each_set P P' places u place stands others here = record {
  many = length-set places u place ∙ stands.many;
  each = λ unit p at. elim (get_set places u unit place p at) [
    | inl same ↦ subst (P' unit) (sym same.1) (subst (λ (n : ℕ). P' n place) (sym same.0) here)
    | inr kept ↦ others unit p kept.0 (stands.each unit p kept.1)
  ];
}

-- where all places are empty, what holds of empty places holds of each
pub each_empty : {T : Type 0} (P : ℕ → Option T → Type 0) (places : List (Option T)) → AtEach (λ unit place. place ≡ None) places → ((unit : ℕ) → P unit None) → AtEach P places
each_empty P places none here = record { many = none.many; each = λ unit place at. subst (P unit) (sym (none.each unit place at)) (here unit) }
