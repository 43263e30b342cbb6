-- Entries that are put into a finite map, one after another.
use Rattle.std.proofs.Common.{◌≡◌, Bool, true, false, cond, List, [], ◌∷◌, Some, None, refl, sym, ap, ◌∙◌}
use Rattle.std.specs.List.{AllByRecursion}
use Rattle.std.specs.Cmp.{IsTotalOrder, tied_itself}
use Rattle.std.specs.Ordering.{is_lt, is_eq, eq_by_cmp}
use Rattle.std.specs.declared.cmp.Ordering.{Ordering}
use Rattle.std.specs.declared.cmp.Ordering.TheVariants.{Less, Equal, Greater}
use Rattle.std.specs.FinMap as finite
use Rattle.std.specs.FinMap.Entries.{below_all, is_sorted, find}
use Rattle.std.proofs.lemmas.Option.{none-some}
use Rattle.std.proofs.lemmas.Bool.{and_parts, cond-false, false≢true}
use Rattle.pitch_fields.proofs.Truth.{true_from_T}

pub is_equal : (r : Ordering) → is_eq r ≡ true → r ≡ Equal
is_equal Less e = absurd (false≢true e)
is_equal Equal e = refl
is_equal Greater e = absurd (false≢true e)

less_differs : (r : Ordering) → is_lt r ≡ true → is_eq r ≡ false
less_differs Less e = refl
less_differs Equal e = absurd (false≢true e)
less_differs Greater e = refl

module _ {K X : Type 0} {R : K → K → Ordering} where
  abbrev pub put_all : finite.FinMap R X → List (K × X) → finite.FinMap R X
  put_all m [] = m
  put_all m (e ∷ es) = put_all (finite.insert m e.0 e.1) es

  pub sorted_entries : (m : finite.FinMap R X) → is_sorted R (finite.entries m) ≡ true
  sorted_entries m = true_from_T (is_sorted R (finite.entries m)) (finite.entries_sorted m)

pub tied : {K : Type 0} {R : K → K → Ordering} → finite.IsAntisymmetric R → (q x : K) → eq_by_cmp R q x ≡ true → q ≡ x
tied {R = R} same q x t = same q x (is_equal (R q x) t)

-- what is below all keys is none of them
none_below : {K X : Type 0} (R : K → K → Ordering) (x : K) (es : List (K × X)) → below_all R x es ≡ true → find R x es ≡ None
none_below R x [] h = refl
none_below R x (e ∷ es) h =
    let parts = and_parts (is_lt (R x e.0)) (below_all R x es) h in
    cond-false (eq_by_cmp R x e.0) (Some e.1) (find R x es) (less_differs (R x e.0) parts.0) ∙ none_below R x es parts.1

module _ {K X : Type 0} {R : K → K → Ordering} (o : IsTotalOrder R) (same : finite.IsAntisymmetric R) where
  -- a map with sorted entries put into it
  get_put_some : (m : finite.FinMap R X) (es : List (K × X)) (q : K) (v : X) → finite.get m q ≡ Some v → find R q es ≡ None → finite.get (put_all m es) q ≡ Some v
  get_put_some m [] q v g none = g
  get_put_some m (e ∷ es) q v g none = by (eq_by_cmp R q e.0) refl none (get_put_some (finite.insert m e.0 e.1) es q v)
    where
      by : (b : Bool) → eq_by_cmp R q e.0 ≡ b → cond b (Some e.1) (find R q es) ≡ None → (finite.get (finite.insert m e.0 e.1) q ≡ Some v → find R q es ≡ None → finite.get (put_all (finite.insert m e.0 e.1) es) q ≡ Some v) → finite.get (put_all (finite.insert m e.0 e.1) es) q ≡ Some v
      by true t n rec = absurd (none-some e.1 (sym n))
      by false t n rec = rec (finite.get-insert o m e.0 e.1 q ∙ cond-false (eq_by_cmp R q e.0) (Some e.1) (finite.get m q) t ∙ g) n

  get_put_all : (m : finite.FinMap R X) (es : List (K × X)) (q : K) → is_sorted R es ≡ true → finite.get m q ≡ None → finite.get (put_all m es) q ≡ find R q es
  get_put_all m [] q sorted none = none
  get_put_all m (e ∷ es) q sorted none =
      let parts = and_parts (below_all R e.0 es) (is_sorted R es) sorted in
      by parts.0 (eq_by_cmp R q e.0) refl (get_put_all (finite.insert m e.0 e.1) es q parts.1)
    where
      by : below_all R e.0 es ≡ true → (b : Bool) → eq_by_cmp R q e.0 ≡ b → (finite.get (finite.insert m e.0 e.1) q ≡ None → finite.get (put_all (finite.insert m e.0 e.1) es) q ≡ find R q es) → finite.get (put_all (finite.insert m e.0 e.1) es) q ≡ cond b (Some e.1) (find R q es)
      by below true t rec =
          get_put_some (finite.insert m e.0 e.1) es q e.1
          (finite.get-insert o m e.0 e.1 q ∙ ap (λ (b : Bool). cond b (Some e.1) (finite.get m q)) t)
          (ap (λ (k : K). find R k es) (tied {R = R} same q e.0 t) ∙ none_below R e.0 es below)
      by below false t rec = rec (finite.get-insert o m e.0 e.1 q ∙ cond-false (eq_by_cmp R q e.0) (Some e.1) (finite.get m q) t ∙ none)

  -- the entries of a map make it anew
  pub put_entries : (m : finite.FinMap R X) → put_all finite.empty (finite.entries m) ≡ m
  put_entries m = finite.same_map o same (put_all finite.empty (finite.entries m)) m
      (λ q. get_put_all finite.empty (finite.entries m) q (sorted_entries m) (finite.get-empty R q) ∙ sym (finite.get-entries m q))

  -- what holds where an entry is found holds of each
  pub all_found : (C : K → X → Type 0) (es : List (K × X)) → is_sorted R es ≡ true → ((q : K) (v : X) → find R q es ≡ Some v → C q v) → AllByRecursion (λ e. C e.0 e.1) es
  all_found C [] sorted found = tt
  all_found C (e ∷ es) sorted found =
      let parts = and_parts (below_all R e.0 es) (is_sorted R es) sorted in
      let itself : eq_by_cmp R e.0 e.0 ≡ true = ap is_eq (tied_itself o e.0) in (
        found e.0 e.1 (ap (λ (b : Bool). cond b (Some e.1) (find R e.0 es)) itself),
        all_found C es parts.1 (λ q v f. found q v (by parts.0 q v f (eq_by_cmp R q e.0) refl)),
      )
    where
      by : below_all R e.0 es ≡ true → (q : K) (v : X) → find R q es ≡ Some v → (b : Bool) → eq_by_cmp R q e.0 ≡ b → cond b (Some e.1) (find R q es) ≡ Some v
      by below q v f true t = absurd (none-some v (sym (ap (λ (k : K). find R k es) (tied {R = R} same q e.0 t) ∙ none_below R e.0 es below) ∙ f))
      by below q v f false t = f

  -- the same of what is found in a map
  pub all_entries : (C : K → X → Type 0) (m : finite.FinMap R X) → ((q : K) (v : X) → finite.get m q ≡ Some v → C q v) → AllByRecursion (λ e. C e.0 e.1) (finite.entries m)
  all_entries C m found = all_found C (finite.entries m) (sorted_entries m) (λ q v f. found q v (finite.get-entries m q ∙ f))
