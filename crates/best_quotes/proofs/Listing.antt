-- The changes between two books, from any rising list of symbols outside of which nothing changes.
use Rattle.std.proofs.Common.{◌≡◌, ℕ, Bool, true, false, ◌&&◌, ◌||◌, cond, List, [], ◌∷◌, ◌++◌, map, filter, None, Some, refl, sym, ap, ◌∙◌, subst}
use Rattle.std.specs.List.{flat_map, list_any, AllByRecursion}
use Rattle.std.specs.List.Sorted.{IsStrictlySortedBy}
use Rattle.std.specs.Ordering.{nat_cmp, eq_by_cmp, is_lt}
use Rattle.std.specs.declared.cmp.Ordering.{Ordering}
use Rattle.std.specs.declared.cmp.Ordering.TheVariants.{Less, Equal, Greater}
use Rattle.std.specs.Cmp.{Equal-is}
use Rattle.std.specs.Cmp.Lexicographic.{slice_cmp}
use Rattle.std.specs.FinMap as finite
use Rattle.std.specs.FinMap.{slice_cmp-IsAntisymmetric, nat_cmp-IsAntisymmetric}
use Rattle.std.specs.FinMap.Entries.{put, by_order, find, is_sorted, below_all}
use Rattle.std.proofs.lemmas.Cmp.{nat_list_cmp_total}
use Rattle.std.proofs.lemmas.Bool.{false≢true, and_parts}
use Rattle.std.proofs.lemmas.List.{nil_from_length}
use Rattle.std.proofs.lemmas.List.Kept.{IsStrictlySortedBy-filter}
use Rattle.std.proofs.lemmas.Map.Views.{any-filter_same}
use Rattle.pitch_fields.proofs.Truth.{true_from_T}
use Rattle.pitch_fields.specs.declared.side.Side.{Side}
use Rattle.pitch_fields.specs.declared.side.Side.TheVariants.{Buy, Sell}
use Rattle.pitch_messages.specs.declared.order.Order.{Order}
use Rattle.pitch_model.specs.Book.{Book}
use Rattle.pitch_model.specs.Levels.{orders_of, best}
use Rattle.best_quotes.specs.declared.quote.Quote.{Quote}
use Rattle.best_quotes.specs.Changes.{symbols_of, same_best, change_on, changes}
use Rattle.best_quotes.proofs.Telling.{both, is_looked_at}

abbrev Symbol : Type 0
Symbol = List ℕ

abbrev symbol_cmp : Symbol → Symbol → Ordering
symbol_cmp = slice_cmp nat_cmp

abbrev stands : Symbol → List Symbol → Bool
stands q ss = list_any (eq_by_cmp symbol_cmp q) ss

abbrev Marks : Type 0
Marks = List (Symbol × Unit {0})

abbrev marks : List Symbol → Marks
marks ss = map (λ s. (s, tt)) ss

abbrev set_of : List Symbol → finite.FinMap symbol_cmp (Unit {0})
set_of ss = finite.from_entries (marks ss)

-- ---- Rising lists as sets
-- what is put below all goes first
put_first : (k : Symbol) (es : Marks) → AllByRecursion (λ y. symbol_cmp k y ≡ Less) (map (λ e. e.0) es) → map (λ e. e.0) (put symbol_cmp k tt es) ≡ k ∷ map (λ e. e.0) es
put_first k [] below = refl
put_first k (e ∷ es) below = ap (λ (o : Ordering). map (λ (x : Symbol × Unit {0}). x.0) (by_order o ((k, tt) ∷ e ∷ es) ((e.0, tt) ∷ es) (e ∷ put symbol_cmp k tt es))) below.0

nothing : (m : finite.FinMap symbol_cmp (Unit {0})) → finite.len m ≡ 0 → finite.keys m ≡ []
nothing m none = ap (map (λ (e : Symbol × Unit {0}). e.0)) (nil_from_length (finite.entries m) (sym (finite.len-entries m) ∙ none))

keys_of_set : (ss : List Symbol) → IsStrictlySortedBy symbol_cmp ss → finite.keys (set_of ss) ≡ ss
unfolding IsStrictlySortedBy
keys_of_set [] rise = nothing (set_of []) (finite.len-empty symbol_cmp (Unit {0}))
keys_of_set (s ∷ ss) rise =
    let rec = keys_of_set ss rise.1 in
    ap (map (λ (e : Symbol × Unit {0}). e.0)) (finite.entries-insert nat_list_cmp_total (set_of ss) s tt)
    ∙ put_first s (finite.entries (set_of ss)) (subst (AllByRecursion (λ y. symbol_cmp s y ≡ Less)) (sym rec) rise.0)
    ∙ ap (λ (l : List Symbol). s ∷ l) rec

marked : (q : Symbol) (ss : List Symbol) → find symbol_cmp q (marks ss) ≡ cond (stands q ss) (Some tt) None
marked q [] = refl
marked q (s ∷ ss) = by (eq_by_cmp symbol_cmp q s) (marked q ss)
  where
    by : (t : Bool) → find symbol_cmp q (marks ss) ≡ cond (list_any (eq_by_cmp symbol_cmp q) ss) (Some tt) None → cond t (Some tt) (find symbol_cmp q (marks ss)) ≡ cond (t || list_any (eq_by_cmp symbol_cmp q) ss) (Some tt) None
    by true rec = refl
    by false rec = rec

is_less : (o : Ordering) → is_lt o ≡ true → o ≡ Less
is_less Less e = refl
is_less Equal e = absurd (false≢true e)
is_less Greater e = absurd (false≢true e)

module _ {X : Type 0} where
  below : (x : Symbol) (es : List (Symbol × X)) → below_all symbol_cmp x es ≡ true → AllByRecursion (λ y. symbol_cmp x y ≡ Less) (map (λ e. e.0) es)
  below x [] e = tt
  below x (y ∷ es) e = let parts = and_parts (is_lt (symbol_cmp x y.0)) (below_all symbol_cmp x es) e in (is_less (symbol_cmp x y.0) parts.0, below x es parts.1)

  rises : (es : List (Symbol × X)) → is_sorted symbol_cmp es ≡ true → IsStrictlySortedBy symbol_cmp (map (λ e. e.0) es)
  unfolding IsStrictlySortedBy
  rises [] e = tt
  rises (x ∷ es) e = let parts = and_parts (below_all symbol_cmp x.0 es) (is_sorted symbol_cmp es) e in (below x.0 es parts.0, rises es parts.1)

  pub keys_rise : (m : finite.FinMap symbol_cmp X) → IsStrictlySortedBy symbol_cmp (finite.keys m)
  keys_rise m = rises (finite.entries m) (true_from_T (is_sorted symbol_cmp (finite.entries m)) (finite.entries_sorted m))

-- rising lists with the same members are the same
same_rising : (ss ts : List Symbol) → IsStrictlySortedBy symbol_cmp ss → IsStrictlySortedBy symbol_cmp ts → ((q : Symbol) → stands q ss ≡ stands q ts) → ss ≡ ts
same_rising ss ts rise rise' same =
    sym (keys_of_set ss rise)
    ∙ ap finite.keys (finite.same_map nat_list_cmp_total (slice_cmp-IsAntisymmetric nat_cmp-IsAntisymmetric) (set_of ss) (set_of ts)
    (λ q. finite.get-from_entries nat_list_cmp_total (marks ss) q ∙ marked q ss ∙ ap (λ (t : Bool). cond t (Some tt) None) (same q) ∙ sym (finite.get-from_entries nat_list_cmp_total (marks ts) q ∙ marked q ts)))
    ∙ keys_of_set ts rise'

-- ---- What changes
abbrev has_any : List Quote → Bool
has_any [] = false
has_any (q ∷ qs) = true

module _ (f : Symbol → List Quote) where
  abbrev tells : Symbol → Bool
  tells s = has_any (f s)

  of_those_that_tell : (ss : List Symbol) → flat_map f ss ≡ flat_map f (filter tells ss)
  of_those_that_tell [] = refl
  of_those_that_tell (s ∷ ss) = by (f s) refl (of_those_that_tell ss)
    where
      by : (qs : List Quote) → f s ≡ qs → flat_map f ss ≡ flat_map f (filter (λ q. has_any (f q)) ss) → f s ++ flat_map f ss ≡ flat_map f (cond (has_any (f s)) (s ∷ filter (λ q. has_any (f q)) ss) (filter (λ q. has_any (f q)) ss))
      by [] e rec =
          ap (λ (qs : List Quote). qs ++ flat_map f ss) e ∙ rec
          ∙ ap (λ (qs : List Quote). flat_map f (cond (has_any qs) (s ∷ filter (λ q. has_any (f q)) ss) (filter (λ q. has_any (f q)) ss))) (sym e)
      by (q ∷ qs) e rec =
          ap (λ (l : List Quote). f s ++ l) rec
          ∙ ap (λ (l : List Quote). flat_map f (cond (has_any l) (s ∷ filter (λ q. has_any (f q)) ss) (filter (λ q. has_any (f q)) ss))) (sym e)

  stands_kept : (q : Symbol) (ss : List Symbol) → stands q (filter tells ss) ≡ (tells q && stands q ss)
  stands_kept q ss = any-filter_same (eq_by_cmp symbol_cmp q) tells (tells q) (λ k e. ap tells (sym (slice_cmp-IsAntisymmetric nat_cmp-IsAntisymmetric q k ((Equal-is (symbol_cmp q k)).0 e)))) ss

  -- two rising lists outside of which nothing is told tell the same
  pub tell_the_same : (ss ts : List Symbol) → IsStrictlySortedBy symbol_cmp ss → IsStrictlySortedBy symbol_cmp ts → ((q : Symbol) → stands q ss ≡ false → f q ≡ []) → ((q : Symbol) → stands q ts ≡ false → f q ≡ []) → flat_map f ss ≡ flat_map f ts
  tell_the_same ss ts rise rise' none none' =
      of_those_that_tell ss
      ∙ ap (flat_map f) (same_rising (filter tells ss) (filter tells ts) (IsStrictlySortedBy-filter symbol_cmp tells ss rise) (IsStrictlySortedBy-filter symbol_cmp tells ts rise')
      (λ q. stands_kept q ss ∙ by q (tells q) refl (stands q ss) refl (stands q ts) refl ∙ sym (stands_kept q ts)))
      ∙ sym (of_those_that_tell ts)
    where
      by : (q : Symbol) (t : Bool) → has_any (f q) ≡ t → (a : Bool) → stands q ss ≡ a → (b : Bool) → stands q ts ≡ b → (t && a) ≡ (t && b)
      by q false e a is_a b is_b = refl
      by q true e true is_a true is_b = refl
      by q true e false is_a b is_b = absurd (false≢true (sym (ap has_any (none q is_a)) ∙ e))
      by q true e true is_a false is_b = absurd (false≢true (sym (ap has_any (none' q is_b)) ∙ e))

module _ (old new : Book) where
  -- a side whose best stays is not told
  stays : (symbol : Symbol) (side : Side) → same_best (best old symbol side) (best new symbol side) ≡ true → change_on old new symbol side ≡ []
  stays symbol side e = ap (λ (t : Bool). cond t [] (record { symbol = symbol; side = side; best = best new symbol side } ∷ [])) e

  pub both_stay : (symbol : Symbol) → ((side : Side) → same_best (best old symbol side) (best new symbol side) ≡ true) → both old new symbol ≡ []
  both_stay symbol same = ap (λ (qs : List Quote). qs ++ change_on old new symbol Sell) (stays symbol Buy (same Buy)) ∙ stays symbol Sell (same Sell)

  not_looked_at : (symbol : Symbol) → stands symbol (symbols_of (orders_of old ++ orders_of new)) ≡ false → both old new symbol ≡ []
  not_looked_at symbol none = both_stay symbol (λ side. by side (same_best (best old symbol side) (best new symbol side)) refl)
    where
      by : (side : Side) (t : Bool) → same_best (best old symbol side) (best new symbol side) ≡ t → t ≡ true
      by side true e = refl
      by side false e = absurd (false≢true (sym none ∙ is_looked_at old new symbol side e))

  -- the changes, from any rising list of symbols outside of which nothing changes
  pub changes_of : (ss : List Symbol) → IsStrictlySortedBy symbol_cmp ss → ((q : Symbol) → stands q ss ≡ false → both old new q ≡ []) → changes old new ≡ flat_map (both old new) ss
  unfolding changes
  changes_of ss rise none =
      tell_the_same (both old new) (symbols_of (orders_of old ++ orders_of new)) ss (keys_rise (finite.from_entries (map (λ (order : Order). (order.symbol, order)) (orders_of old ++ orders_of new)))) rise not_looked_at none
