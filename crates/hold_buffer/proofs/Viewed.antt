-- A `BTreeMap` of messages as a finite map.
use Rattle.std.proofs.Common.{◌≡◌, ℕ, suc, ◌+◌, Bool, false, cond, List, [], ◌∷◌, length, refl, sym, ap, ◌∙◌, arith, Some, None}
use Rattle.std.specs.Ordering.{nat_cmp, eq_by_cmp}
use Rattle.std.specs.Cmp.{nat_cmp_total, eq_by_cmp_equiv}
use Rattle.std.specs.Option.{is_some}
use Rattle.std.specs.List.{AllByRecursion}
use Rattle.std.specs.List.Sorted.{IsStrictlySortedBy}
use Rattle.std.specs.Map.{lookup, keys_of}
use Rattle.std.specs.BTreeMap.{is_at}
use Rattle.std.specs.FinMap.{get, contains_key, insert, remove, len, from_entries, get-from_entries, get-insert, get-remove, len-insert, len-empty, retain_keys, find, same_map, nat_cmp-IsAntisymmetric}
use Rattle.std.proofs.lemmas.Map.{lookup-none}
use Rattle.std.proofs.lemmas.Map.Keys.{IsDistinct-from_sorted, IsDistinct-head, sorted_tail}
use Rattle.hold_buffer.proofs.Finite.{get_retained}

module _ {X : Type 0} where
  find_lookup : (es : List (ℕ × X)) (q : ℕ) → find nat_cmp q es ≡ lookup (is_at (nat_cmp q)) es
  find_lookup [] q = refl
  find_lookup (e ∷ es) q = ap (cond (is_at (nat_cmp q) e.0) (Some e.1)) (find_lookup es q)

  -- what the map that the entries make has at a sequence
  pub get_view : (es : List (ℕ × X)) (q : ℕ) → get (from_entries {R = nat_cmp} es) q ≡ lookup (is_at (nat_cmp q)) es
  get_view es q = get-from_entries nat_cmp_total es q ∙ find_lookup es q

  -- entries that differ at one sequence make maps that differ there
  pub inserted : (es fs : List (ℕ × X)) (k : ℕ) (v : X) → ((q : ℕ) → lookup (is_at (nat_cmp q)) fs ≡ cond (is_at (nat_cmp k) q) (Some v) (lookup (is_at (nat_cmp q)) es)) → from_entries {R = nat_cmp} fs ≡ insert (from_entries es) k v
  inserted es fs k v h = same_map nat_cmp_total nat_cmp-IsAntisymmetric _ _ (λ q.
      get_view fs q ∙ h q ∙ ap (λ b. cond b (Some v) (lookup (is_at (nat_cmp q)) es)) ((eq_by_cmp_equiv nat_cmp_total).symm k q)
      ∙ sym (get-insert nat_cmp_total (from_entries es) k v q ∙ ap (cond (is_at (nat_cmp q) k) (Some v)) (get_view es q)))

  pub removed : (es fs : List (ℕ × X)) (k : ℕ) → ((q : ℕ) → lookup (is_at (nat_cmp q)) fs ≡ cond (is_at (nat_cmp k) q) None (lookup (is_at (nat_cmp q)) es)) → from_entries {R = nat_cmp} fs ≡ remove (from_entries es) k
  removed es fs k h = same_map nat_cmp_total nat_cmp-IsAntisymmetric _ _ (λ q.
      get_view fs q ∙ h q ∙ ap (λ b. cond b None (lookup (is_at (nat_cmp q)) es)) ((eq_by_cmp_equiv nat_cmp_total).symm k q)
      ∙ ap (λ o. cond (eq_by_cmp nat_cmp q k) None o) (sym (get_view es q))
      ∙ sym (get-remove nat_cmp_total (from_entries es) k q))

  pub retained : (es fs : List (ℕ × X)) (p : ℕ → Bool) → ((q : ℕ) → lookup (is_at (nat_cmp q)) fs ≡ cond (p q) (lookup (is_at (nat_cmp q)) es) None) → from_entries {R = nat_cmp} fs ≡ retain_keys (from_entries es) p
  retained es fs p h = same_map nat_cmp_total nat_cmp-IsAntisymmetric _ _ (λ q.
      get_view fs q ∙ h q ∙ ap (λ o. cond (p q) o None) (sym (get_view es q))
      ∙ sym (get_retained (from_entries es) p q))

  none_of : (P : ℕ → Type 0) (es : List (ℕ × X)) → AllByRecursion P (keys_of es) → AllByRecursion (λ e. P e.0) es
  none_of P [] h = tt
  none_of P (e ∷ es) h = (h.0, none_of P es h.1)

  pub len_view : (es : List (ℕ × X)) → IsStrictlySortedBy nat_cmp (keys_of es) → len (from_entries {R = nat_cmp} es) ≡ length es
  len_view [] h = len-empty nat_cmp X
  len_view (e ∷ es) h =
      let apart = none_of (λ k. eq_by_cmp nat_cmp e.0 k ≡ false) es (IsDistinct-head (eq_by_cmp nat_cmp) e.0 (keys_of es) (IsDistinct-from_sorted nat_cmp (keys_of (e ∷ es)) h)) in
      let none : contains_key (from_entries {R = nat_cmp} es) e.0 ≡ false = ap is_some (get_view es e.0 ∙ lookup-none (is_at (nat_cmp e.0)) es apart) in
      let rest = len_view es (sorted_tail nat_cmp e.0 (keys_of es) h) in
      len-insert nat_cmp_total (from_entries es) e.0 e.1 ∙ ap (λ b. cond b (len (from_entries {R = nat_cmp} es)) (len (from_entries {R = nat_cmp} es) + 1)) none ∙ (let a : len (from_entries {R = nat_cmp} es) + 1 ≡ suc (length es) = omega arith in a)
