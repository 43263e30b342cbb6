-- What holds of each line, and of each call.
use Rattle.std.proofs.Common.{◌≡◌, ℕ, zero, suc, List, [], ◌∷◌, ◌++◌, length, map, set, slice_get, Some, refl, subst}
use Rattle.std.specs.List.{AllByRecursion}

-- ---- Of each element with its index
abbrev pub Each : {A : Type 0} → (ℕ → A → Type 0) → List A → Type 0
Each {A} P xs = (n : ℕ) (x : A) → slice_get xs n ≡ Some x → P n x

pub each_set : {A : Type 0} (P : ℕ → A → Type 0) (xs : List A) (n : ℕ) (new : A) → P n new → Each P xs → Each P (set xs n new)
each_set P [] n new p each m x e = each m x e
each_set {A} P (y ∷ ys) zero new p each zero x e = let same : new ≡ x = cc in subst (λ (z : A). P 0 z) same p
each_set P (y ∷ ys) zero new p each (suc m) x e = each (suc m) x e
each_set P (y ∷ ys) (suc n) new p each zero x e = each zero x e
each_set P (y ∷ ys) (suc n) new p each (suc m) x e = each_set (λ k z. P (suc k) z) ys n new p (λ k z q. each (suc k) z q) m x e

pub each_map : {A : Type 0} (P Q : ℕ → A → Type 0) (f : A → A) → ((n : ℕ) (x : A) → P n x → Q n (f x)) → (xs : List A) → Each P xs → Each Q (map f xs)
each_map P Q f step [] each m x e = absurd (cc)
each_map {A} P Q f step (y ∷ ys) each zero x e = let same : f y ≡ x = cc in subst (λ (z : A). Q 0 z) same (step 0 y (each 0 y refl))
each_map P Q f step (y ∷ ys) each (suc m) x e = each_map (λ k z. P (suc k) z) (λ k z. Q (suc k) z) f (λ n z p. step (suc n) z p) ys (λ k z q. each (suc k) z q) m x e

pub each_more : {A : Type 0} (P : ℕ → A → Type 0) (xs : List A) (new : A) → P (length xs) new → Each P xs → Each P (xs ++ new ∷ [])
each_more {A} P [] new p each zero x e = let same : new ≡ x = cc in subst (λ (z : A). P 0 z) same p
each_more P [] new p each (suc m) x e = absurd (cc)
each_more P (y ∷ ys) new p each zero x e = each zero x e
each_more P (y ∷ ys) new p each (suc m) x e = each_more (λ k z. P (suc k) z) ys new p (λ k z q. each (suc k) z q) m x e

-- ---- Of each element
pub all_append : {A : Type 0} (P : A → Type 0) (xs ys : List A) → AllByRecursion P xs → AllByRecursion P ys → AllByRecursion P (xs ++ ys)
all_append P [] ys all more = more
all_append P (x ∷ xs) ys all more = (all.0, all_append P xs ys all.1 more)

pub all_as : {A : Type 0} (P Q : A → Type 0) → ((x : A) → P x → Q x) → (xs : List A) → AllByRecursion P xs → AllByRecursion Q xs
all_as P Q step [] all = tt
all_as P Q step (x ∷ xs) all = (step x all.0, all_as P Q step xs all.1)

pub all_map : {A B : Type 0} (P : B → Type 0) (f : A → B) (xs : List A) → AllByRecursion (λ x. P (f x)) xs → AllByRecursion P (map f xs)
all_map P f [] all = tt
all_map P f (x ∷ xs) all = (all.0, all_map P f xs all.1)
