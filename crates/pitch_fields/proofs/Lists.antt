-- Lists: what holds of each element, and which element stands at a place.
use Rattle.std.proofs.Common.{◌≡◌, ◌==◌, true, inl, inr, ◌+◌, ◌<◌, ℕ, zero, suc, List, [], ◌∷◌, ◌++◌, length, take, drop, replicate, set, reverse, Some, refl, ap, sym, subst, ◌∙◌, arith}
use Rattle.std.specs.List.{AllByRecursion, slice_get, list_any}
use Rattle.std.proofs.lemmas.List.{reverse-append}
use Rattle.std.proofs.lemmas.Option.{none-some, slice_get_past, same_Some}
use Rattle.std.proofs.lemmas.Bool.{false≢true, or_cases, eqb-true}

-- ---- What holds of each element
module _ {A : Type 0} (P : A → Type 0) where
  -- where it holds of each of two lists, it does of the second behind the first
  pub all_append : (xs ys : List A) → AllByRecursion P xs → AllByRecursion P ys → AllByRecursion P (xs ++ ys)
  all_append [] ys first second = second
  all_append (x ∷ xs) ys first second = (first.0, all_append xs ys first.1 second)

  -- and the other way round
  pub all_split : (xs ys : List A) → AllByRecursion P (xs ++ ys) → AllByRecursion P xs × AllByRecursion P ys
  all_split [] ys all = (tt, all)
  all_split (x ∷ xs) ys all = let rest = all_split xs ys all.1 in ((all.0, rest.0), rest.1)

  -- one element more
  pub all_push : (xs : List A) (x : A) → AllByRecursion P xs → P x → AllByRecursion P (xs ++ x ∷ [])
  all_push xs x all is = all_append xs (x ∷ []) all (is, tt)

  -- the first elements
  pub all_take : (n : ℕ) (xs : List A) → AllByRecursion P xs → AllByRecursion P (take n xs)
  all_take zero xs all = tt
  all_take (suc n) [] all = tt
  all_take (suc n) (x ∷ xs) all = (all.0, all_take n xs all.1)

  -- those behind them
  pub all_drop : (n : ℕ) (xs : List A) → AllByRecursion P xs → AllByRecursion P (drop n xs)
  all_drop zero xs all = all
  all_drop (suc n) [] all = tt
  all_drop (suc n) (x ∷ xs) all = all_drop n xs all.1

  -- the one at a place
  pub all_get : (xs : List A) (i : ℕ) (x : A) → AllByRecursion P xs → slice_get xs i ≡ Some x → P x
  all_get [] i x all at = absurd (none-some x (sym (slice_get_past [] i (omega arith)) ∙ at))
  all_get (y ∷ xs) zero x all at = subst P (same_Some y x at) all.0
  all_get (y ∷ xs) (suc i) x all at = all_get xs i x all.1 at

  -- one element, again and again
  pub all_replicate : (n : ℕ) (x : A) → P x → AllByRecursion P (replicate n x)
  all_replicate zero x is = tt
  all_replicate (suc n) x is = (is, all_replicate n x is)

-- what follows from it holds of each element too
pub all_follows : {A : Type 0} (P Q : A → Type 0) → ((x : A) → P x → Q x) → (xs : List A) → AllByRecursion P xs → AllByRecursion Q xs
all_follows P Q follows [] all = tt
all_follows P Q follows (x ∷ xs) all = (follows x all.0, all_follows P Q follows xs all.1)

-- of numbers, of one that is found among them
pub all_found : (P : ℕ → Type 0) (ns : List ℕ) (k : ℕ) → AllByRecursion P ns → list_any (λ n. n == k) ns ≡ true → P k
all_found P [] k all found = absurd (false≢true found)
all_found P (n ∷ ns) k all found = elim (or_cases (n == k) (list_any (λ n. n == k) ns) found) [
  | inl here ↦ subst P (eqb-true n k here) all.0
  | inr behind ↦ all_found P ns k all.1 behind
]

-- ---- Which element stands at a place
module _ {A : Type 0} where
  -- behind a list that of another
  pub get_behind : (xs ys : List A) (i : ℕ) → slice_get (xs ++ ys) (length xs + i) ≡ slice_get ys i
  get_behind [] ys i = let e : 0 + i ≡ i = omega arith in ap (slice_get ys) e
  get_behind (x ∷ xs) ys i = let e : length (x ∷ xs) + i ≡ suc (length xs + i) = omega arith in ap (slice_get (x ∷ (xs ++ ys))) e ∙ get_behind xs ys i

  -- the last is the one that was added last
  pub get_last : (xs : List A) (x : A) → slice_get (xs ++ x ∷ []) (length xs) ≡ Some x
  get_last [] x = refl
  get_last (y ∷ xs) x = get_last xs x

  -- where one was set, that one
  pub get_set : (xs : List A) (i : ℕ) (x : A) → i < length xs → slice_get (set xs i x) i ≡ Some x
  get_set [] i x within = absurd (omega arith)
  get_set (y ∷ xs) zero x within = refl
  get_set (y ∷ xs) (suc i) x within = get_set xs i x (omega arith)

  -- ---- The other way round
  pub reverse_then : (xs : List A) (x : A) (before : List A) → reverse (xs ++ x ∷ []) ++ before ≡ x ∷ (reverse xs ++ before)
  reverse_then xs x before = ap (λ (ys : List A). ys ++ before) (reverse-append xs (x ∷ []))
