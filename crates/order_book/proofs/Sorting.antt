-- What was made of each entry of a list, sorted by their keys, is what is made of each entry of the
-- finite map.
use Rattle.std.proofs.Common.{◌≡◌, ℕ, ◌+◌, ◌<◌, Bool, true, false, cond, List, [], ◌∷◌, ◌&&◌, length, get_or, map, Option, Some, nat_eq, refl, sym, ap, subst, ◌∙◌, arith}
use Rattle.std.specs.Prelude.{T, bytes_eq}
use Rattle.std.specs.List.{IsDistinct, AllByRecursion}
use Rattle.std.specs.List.Sorted.{IsPermutation, IsStrictlySortedBy, IsSorted, IsSortedByKey}
use Rattle.std.specs.Map.{keys_of, values_of, lookup}
use Rattle.std.specs.Ordering.{nat_cmp, is_lt, is_eq, ordering_reverse}
use Rattle.std.specs.declared.cmp.Ordering.{Ordering}
use Rattle.std.specs.declared.cmp.Ordering.TheVariants.{Less, Equal, Greater}
use Rattle.std.specs.FinMap as finite
use Rattle.std.specs.FinMap.Entries.{below_all}
use Rattle.std.proofs.lemmas.Bool.{true≢false}
use Rattle.std.proofs.lemmas.Bool.Decides.{Decides-eqb, nat_tests}
use Rattle.std.proofs.lemmas.List.{get_or-map, length-map}
use Rattle.std.proofs.lemmas.List.Sorted.{IsPermutation-map}
use Rattle.std.proofs.lemmas.Map.Entries.{lookup_head}
use Rattle.std.proofs.lemmas.Map.Keys.{IsDistinct-head, IsDistinct-tail, IsDistinct-IsPermutation, apart_from_distinct, sorted_from_all_adjacent}
use Rattle.std.proofs.lemmas.Option.{none-some}
use Rattle.indexmap.proofs.MapLemmas.{lookup_permutation}
use Rattle.pitch_messages.specs.declared.order.Order.{Order}
use Rattle.pitch_messages.specs.declared.trading_state.TradingState.{TradingState}
use Rattle.pitch_model.specs.Book.{symbol_cmp}
use Rattle.pitch_model.specs.Statuses.{symbol_state}
use Rattle.order_book.specs.Symbols.{StatusMap}
use Rattle.order_book.specs.Standing.{IsKept}
use Rattle.order_book.proofs.Maps.{AreKeys, id_keys, symbol_keys, find_lookup, absent, looks}

both : (a b : Bool) → T a → T b → T (a && b)
both true b p q = q
both false b p q = absurd p

mapped_twice : {A B C : Type 0} (f : A → B) (g : B → C) (xs : List A) → map g (map f xs) ≡ map (λ x. g (f x)) xs
mapped_twice f g [] = refl
mapped_twice f g (x ∷ xs) = ap (λ l. g (f x) ∷ l) (mapped_twice f g xs)

unmapped : {A : Type 0} (f : A → A) (xs : List A) → ((x : A) → f x ≡ x) → map f xs ≡ xs
unmapped f [] same = refl
unmapped f (x ∷ xs) same = λ i. same x i ∷ unmapped f xs same i

-- what is sorted by a key has sorted keys
keys_sorted : {K X : Type 0} (R : K → K → Ordering) (key : X → K) (xs : List X) → IsSortedByKey key R xs → IsSorted R (map key xs)
keys_sorted R key [] sorted k d least within = absurd (omega (arith, within))
keys_sorted R key (x ∷ xs) sorted k d least within =
    let n = length-map (x ∷ xs) key in
    let inside : k + 1 < length (x ∷ xs) = omega (arith, n, within) in
    let first = get_or-map key (x ∷ xs) k x d (omega (arith, inside)) in
    let second = get_or-map key (x ∷ xs) (k + 1) x d inside in
    (λ i. is_lt (R (second i) (first i))) ∙ sorted k x least inside

-- ---- Keys in order
module _ {K : Type 0} {R : K → K → Ordering} {eq : K → K → Bool} (keys : AreKeys R eq) where
  -- of two keys that differ, the one that is not above is below
  below : (x y : K) (r : Ordering) → R x y ≡ r → is_lt (R y x) ≡ false → eq x y ≡ false → r ≡ Less
  below x y Less is up apart = refl
  below x y Equal is up apart = absurd (true≢false (sym (keys.ties x y ∙ ap is_eq is) ∙ apart))
  below x y Greater is up apart = absurd (true≢false (sym (ap is_lt (keys.total.antisymm y x ∙ ap ordering_reverse is)) ∙ up))

  -- keys that do not fall, none of which stands twice, rise
  strictly : (ks : List K) → IsSorted R ks → IsDistinct eq ks → IsStrictlySortedBy R ks
  unfolding IsStrictlySortedBy
  strictly [] up apart = tt
  strictly (x ∷ xs) up apart = sorted_from_all_adjacent keys.total (x ∷ xs) x (λ k within.
      let a = get_or (x ∷ xs) k x in
      let b = get_or (x ∷ xs) (k + 1) x in
      below a b (R a b) refl (up k x (omega arith) within) (apart_from_distinct eq (x ∷ xs) k (k + 1) x apart (omega arith) within))

module _ {K X : Type 0} (R : K → K → Ordering) where
  below_is : (x : K) (es : List (K × X)) → AllByRecursion (λ y. R x y ≡ Less) (keys_of es) → T (below_all R x es)
  below_is x [] all = tt
  below_is x (e ∷ es) all = both (is_lt (R x e.0)) (below_all R x es) (subst (λ (o : Ordering). T (is_lt o)) (sym all.0) tt) (below_is x es all.1)

  sorted_is : (es : List (K × X)) → IsStrictlySortedBy R (keys_of es) → T (finite.is_sorted R es)
  unfolding IsStrictlySortedBy
  sorted_is [] ordered = tt
  sorted_is (e ∷ es) ordered = both (below_all R e.0 es) (finite.is_sorted R es) (below_is e.0 es ordered.0) (sorted_is es ordered.1)

module _ {K X : Type 0} {R : K → K → Ordering} {eq : K → K → Bool} (keys : AreKeys R eq) where
  -- the entries of the map, from any list of them that is sorted
  entries_are : (es ps : List (K × X)) → IsDistinct eq (keys_of es) → IsPermutation es ps → IsSorted R (keys_of ps) → finite.entries (finite.from_entries {R = R} es) ≡ ps
  entries_are es ps unique moved up =
      let apart : IsDistinct eq (keys_of ps) = IsDistinct-IsPermutation eq keys.equiv.symm (keys_of es) (keys_of ps) (IsPermutation-map (λ (e : K × X). e.0) es ps moved) unique in
      let sorted : T (finite.is_sorted R ps) = sorted_is R ps (strictly keys (keys_of ps) up apart) in
      ap finite.entries (finite.same_map keys.total keys.apart (finite.from_entries {R = R} es) (finite.from_sorted ps) (λ q.
      looks keys es q ∙ sym (finite.get-from_sorted R ps q sorted ∙ find_lookup keys q ps ∙ lookup_permutation keys.equiv es ps moved apart (eq q) (keys.equiv.congr q))))
      ∙ finite.entries-from_sorted R ps sorted

  -- what f makes of each entry, where g gives the entries back, sorted by their keys
  pub sorted_by_key : {Y : Type 0} (f : K × X → Y) (g : Y → K × X) (es : List (K × X)) (ys : List Y) → ((y : Y) → f (g y) ≡ y) → map g (map f es) ≡ es
      → IsDistinct eq (keys_of es) → IsPermutation (map f es) ys → IsSortedByKey (λ y. (g y).0) R ys → ys ≡ map f (finite.entries (finite.from_entries {R = R} es))
  sorted_by_key {Y} f g es ys back forth unique same up =
      let ps : List (K × X) = map g ys in
      let moved : IsPermutation es ps = subst (λ (l : List (K × X)). IsPermutation l ps) forth (IsPermutation-map g (map f es) ys same) in
      let rise : IsSorted R (keys_of ps) = subst (IsSorted R) (sym (mapped_twice g (λ (e : K × X). e.0) ys)) (keys_sorted R (λ (y : Y). (g y).0) ys up) in
      sym (ap (λ (l : List (K × X)). map f l) (entries_are es ps unique moved rise) ∙ mapped_twice g f ys ∙ unmapped (λ (y : Y). f (g y)) ys back)

-- ---- Orders by their ids
-- an order after its id
abbrev pub by_id : Order → ℕ × Order
by_id order = (order.id, order)

-- each order stands under its id
abbrev pub StandById : List (ℕ × Order) → Type 0
StandById es = (q : ℕ) (order : Order) → lookup (nat_eq q) es ≡ Some order → order.id ≡ q

itself : (n : ℕ) → nat_eq n n ≡ true
itself n = grind (arith, nat_tests)

rest_stands : (e : ℕ × Order) (es : List (ℕ × Order)) → IsDistinct nat_eq (keys_of (e ∷ es)) → StandById (e ∷ es) → StandById es
rest_stands e es d s q order found = by (nat_eq q e.0) refl
  where
    by : (b : Bool) → nat_eq q e.0 ≡ b → order.id ≡ q
    by true t =
        let same : q ≡ e.0 = (Decides-eqb q e.0).0 t in
        absurd (none-some order (sym (absent nat_eq e.0 es (IsDistinct-head nat_eq e.0 (keys_of es) d)) ∙ ap (λ (k : ℕ). lookup (nat_eq k) es) (sym same) ∙ found))
    by false f = s q order (ap (λ (b : Bool). cond b (Some e.1) (lookup (nat_eq q) es)) f ∙ found)

-- so the entries are their orders, each after its id
paired : (es : List (ℕ × Order)) → IsDistinct nat_eq (keys_of es) → StandById es → map by_id (values_of es) ≡ es
paired [] d s = refl
paired (e ∷ es) d s =
    let own : e.1.id ≡ e.0 = s e.0 e.1 (lookup_head (nat_eq e.0) e es (itself e.0)) in
    λ i. (own i, e.1) ∷ paired es (IsDistinct-tail nat_eq e.0 (keys_of es) d) (rest_stands e es d s) i

pub sorted_orders : (es : List (ℕ × Order)) (xs : List Order) → IsDistinct nat_eq (keys_of es) → StandById es → IsPermutation (values_of es) xs → IsSortedByKey (λ (o : Order). o.id) nat_cmp xs
    → xs ≡ finite.values (finite.from_entries {R = nat_cmp} es)
sorted_orders es xs unique stand same up = sorted_by_key id_keys (λ (e : ℕ × Order). e.1) by_id es xs (λ o. refl) (paired es unique stand) unique same up

pub kept_stand : (second : Option ℕ) (es : List (ℕ × Order)) (statuses : StatusMap) → IsKept second es statuses → StandById es
kept_stand second es statuses kept q order found = kept.book.ids q order (looks id_keys es q ∙ found)

-- ---- Statuses by their symbols
-- a status after its symbol
abbrev by_symbol : TradingState → List ℕ × (ℕ × ℕ)
by_symbol state = (state.symbol, (state.halt, state.sho))

unpaired : (es : List (List ℕ × (ℕ × ℕ))) → map by_symbol (map symbol_state es) ≡ es
unpaired es = mapped_twice symbol_state by_symbol es ∙ unmapped (λ (e : List ℕ × (ℕ × ℕ)). by_symbol (symbol_state e)) es (λ e. refl)

pub sorted_states : (es : List (List ℕ × (ℕ × ℕ))) (xs : List TradingState) → IsDistinct bytes_eq (keys_of es) → IsPermutation (map symbol_state es) xs → IsSortedByKey (λ (s : TradingState). s.symbol) symbol_cmp xs
    → xs ≡ map symbol_state (finite.entries (finite.from_entries {R = symbol_cmp} es))
sorted_states es xs unique same up = sorted_by_key symbol_keys symbol_state by_symbol es xs (λ s. refl) (unpaired es) unique same up
