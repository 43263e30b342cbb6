-- A map by price has the levels of a book in their order.
use Rattle.std.proofs.Common.{◌≡◌, ℕ, zero, suc, ◌||◌, ◌&&◌, Bool, true, false, cond, List, [], ◌∷◌, ◌++◌, map, take, length, Option, Some, None, refl, sym, ap, ◌∙◌, subst, arith, eqb}
use Rattle.std.proofs.Math.Dec.{T}
use Rattle.std.specs.List.{AllByRecursion}
use Rattle.std.specs.List.Sorted.{IsStrictlySortedBy}
use Rattle.std.specs.Map.{lookup}
use Rattle.std.specs.Option.{is_some}
use Rattle.std.specs.Set.{is_member}
use Rattle.std.specs.Ordering.{nat_cmp, eq_by_cmp, is_lt}
use Rattle.std.specs.declared.cmp.Ordering.{Ordering}
use Rattle.std.specs.declared.cmp.Ordering.TheVariants.{Less}
use Rattle.std.specs.BTreeMap.{is_at}
use Rattle.std.specs.FinMap.{nat_cmp-IsAntisymmetric}
use Rattle.std.specs.FinMap.Entries.{find, below_all, is_sorted, is_sorted-put, find-put, same_entries}
use Rattle.std.proofs.lemmas.Bool.{false≢true, eqb-true, eq-eqb}
use Rattle.std.proofs.lemmas.Cmp.{nat_cmp_total}
use Rattle.std.proofs.lemmas.List.{length-reverse, append-nil, append_assoc}
use Rattle.pitch_fields.proofs.Keys.{same_test}
use Rattle.pitch_fields.specs.declared.side.Side.{Side}
use Rattle.pitch_fields.specs.declared.side.Side.TheVariants.{Buy, Sell}
use Rattle.pitch_model.specs.Book.{Book, IsBook}
use Rattle.pitch_model.specs.Levels.{level, best, prices_on}
use Rattle.pitch_model.proofs.Prices.{best-none}
use Rattle.leveled_units.specs.BestFirst.{rising, best_first, levels_of, TellsLevels}
use Rattle.best_quotes.specs.Leveling.{standing}
use Rattle.best_quotes.proofs.Besting.{level_has_order, price_has_level, none_open}

abbrev pub Levels : Type 0
Levels = List (ℕ × ℕ)

-- ---- Entries whose prices rise
below_is : (price : ℕ) (levels : Levels) → AllByRecursion (λ y. nat_cmp price y ≡ Less) (map (λ e. e.0) levels) → below_all nat_cmp price levels ≡ true
below_is price [] all = refl
below_is price (e ∷ levels) all = ap (λ (o : Ordering). is_lt o && below_all nat_cmp price levels) all.0 ∙ below_is price levels all.1

rises : (levels : Levels) → IsStrictlySortedBy nat_cmp (map (λ e. e.0) levels) → is_sorted nat_cmp levels ≡ true
unfolding IsStrictlySortedBy
rises [] s = refl
rises (e ∷ levels) s = ap (λ (b : Bool). b && is_sorted nat_cmp levels) (below_is e.0 levels s.0) ∙ rises levels s.1

rising_rises : (shares : ℕ → ℕ) (prices : List ℕ) → T (is_sorted nat_cmp (rising shares prices))
rising_rises shares [] = tt
rising_rises shares (p ∷ ps) = is_sorted-put nat_cmp nat_cmp_total p (shares p) (rising shares ps) (rising_rises shares ps)

-- ---- What is found at a price
found_in : (q : ℕ) (levels : Levels) → find nat_cmp q levels ≡ lookup (is_at (nat_cmp q)) levels
found_in q [] = refl
found_in q (e ∷ levels) = ap (cond (eq_by_cmp nat_cmp q e.0) (Some e.1)) (found_in q levels)

found_rising : (shares : ℕ → ℕ) (prices : List ℕ) (q : ℕ) → find nat_cmp q (rising shares prices) ≡ cond (is_member eqb prices q) (Some (shares q)) None
found_rising shares [] q = refl
found_rising shares (p ∷ ps) q =
    find-put nat_cmp nat_cmp_total q p (shares p) (rising shares ps)
    ∙ ap (λ (t : Bool). cond t (Some (shares p)) (find nat_cmp q (rising shares ps))) (same_test q p)
    ∙ ap (cond (eqb q p) (Some (shares p))) (found_rising shares ps q)
    ∙ by (eqb q p) refl
  where
    by : (t : Bool) → eqb q p ≡ t → cond t (Some (shares p)) (cond (is_member eqb ps q) (Some (shares q)) None) ≡ cond (t || is_member eqb ps q) (Some (shares q)) None
    by true e = ap (λ (k : ℕ). Some (shares k)) (sym (eqb-true q p e))
    by false e = refl

-- ---- A book
module _ (book : Book) (is : IsBook book) (symbol : List ℕ) (side : Side) where
  standing_at : (q : ℕ) → standing (level book symbol side q) ≡ cond (is_member eqb (prices_on book symbol side) q) (Some (level book symbol side q)) None
  standing_at q = by (is_member eqb (prices_on book symbol side) q) refl (eqb (level book symbol side q) 0) refl
    where
      by : (m : Bool) → is_member eqb (prices_on book symbol side) q ≡ m → (z : Bool) → eqb (level book symbol side q) 0 ≡ z → cond z None (Some (level book symbol side q)) ≡ cond m (Some (level book symbol side q)) None
      by true there true nil = let some = price_has_level book is symbol side q there in let none = eqb-true (level book symbol side q) 0 nil in absurd (omega arith)
      by true there false nil = refl
      by false there true nil = refl
      by false there false nil = absurd (false≢true (sym there ∙ level_has_order book is symbol side q (λ none. false≢true (sym nil ∙ eq-eqb (level book symbol side q) 0 none))))

  -- what stands in a map that has what is open at each price
  pub entries_are : (levels : Levels) → IsStrictlySortedBy nat_cmp (map (λ e. e.0) levels) → ((q : ℕ) → lookup (is_at (nat_cmp q)) levels ≡ standing (level book symbol side q))
      → levels ≡ rising (level book symbol side) (prices_on book symbol side)
  entries_are levels rise has =
      same_entries nat_cmp nat_cmp_total nat_cmp-IsAntisymmetric levels (rising (level book symbol side) (prices_on book symbol side))
      (subst T (sym (rises levels rise)) tt) (rising_rises (level book symbol side) (prices_on book symbol side))
      (λ q. found_in q levels ∙ has q ∙ standing_at q ∙ sym (found_rising (level book symbol side) (prices_on book symbol side) q))

  length_of : (levels : Levels) → length (best_first side levels) ≡ length levels
  length_of levels = by side
    where
      by : (s : Side) → length (best_first s levels) ≡ length levels
      by Buy = length-reverse levels
      by Sell = refl

  pub tells_levels : (levels : Levels) → IsStrictlySortedBy nat_cmp (map (λ e. e.0) levels) → ((q : ℕ) → lookup (is_at (nat_cmp q)) levels ≡ standing (level book symbol side q))
      → (most count : ℕ) (told told' : Levels) → told' ≡ told ++ take most (best_first side levels) → count ≡ length levels → TellsLevels book symbol side most told told' count
  unfolding levels_of
  tells_levels levels rise has most count told told' tells number =
      let same = entries_are levels rise has in
      record {
        levels = tells ∙ ap (λ (l : Levels). told ++ take most (best_first side l)) same;
        count_is = number ∙ sym (length_of levels) ∙ ap (λ (l : Levels). length (best_first side l)) same;
      }

  -- where nothing stands for the symbol, it has no level
  pub tells_none : ((q : ℕ) → None ≡ standing (level book symbol side q)) → (most : ℕ) (told : Levels) → TellsLevels book symbol side most told told 0
  unfolding IsStrictlySortedBy
  tells_none none most told = tells_levels [] tt none most 0 told told (sym (append-nil told) ∙ ap (λ (l : Levels). told ++ l) (by side most)) refl
    where
      by : (s : Side) (n : ℕ) → [] ≡ take n (best_first s [])
      by Buy zero = refl
      by Buy (suc n) = refl
      by Sell zero = refl
      by Sell (suc n) = refl

-- a side that has no best has no level
pub tells_empty : (book : Book) → IsBook book → (symbol : List ℕ) (side : Side) (found : Option (ℕ × ℕ)) → found ≡ best book symbol side → is_some found ≡ false → (most : ℕ) (told : Levels) → TellsLevels book symbol side most told told 0
tells_empty book is symbol side None same none most told =
    tells_none book is symbol side (λ q. ap standing (sym (none_open book is symbol side q (best-none book symbol side (sym same))))) most told
tells_empty book is symbol side (Some found) same none most told = absurd (false≢true (sym none))

-- ---- Levels that are appended one by one
module _ (out all : Levels) (k : ℕ) (left : Levels) (told : out ++ take k left ≡ all) where
  pub next_told : (out' left' : Levels) (level : ℕ × ℕ) (k' : ℕ) → out' ≡ out ++ level ∷ [] → left ≡ level ∷ left' → k ≡ suc k' → out' ++ take k' left' ≡ all
  next_told out' left' level k' push split one =
      ap (λ (l : Levels). l ++ take k' left') push ∙ append_assoc out (level ∷ []) (take k' left')
      ∙ ap (λ (l : Levels). out ++ take (suc k') l) (sym split) ∙ ap (λ (n : ℕ). out ++ take n left) (sym one) ∙ told

  pub all_told : k ≡ 0 → out ≡ all
  all_told none = sym (append-nil out) ∙ ap (λ (n : ℕ). out ++ take n left) (sym none) ∙ told

  pub none_left : left ≡ [] → out ≡ all
  none_left none = sym (append-nil out) ∙ ap (λ (l : Levels). out ++ l) (by k) ∙ ap (λ (l : Levels). out ++ take k l) (sym none) ∙ told
    where
      by : (n : ℕ) → [] ≡ take {A = ℕ × ℕ} n []
      by zero = refl
      by (suc n) = refl
