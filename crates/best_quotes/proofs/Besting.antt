-- The nearest level is the best of the book whose levels stand in the map.
use Rattle.std.proofs.Common.{◌≡◌, ℕ, ◌<◌, ◌==◌, ◌&&◌, ◌||◌, Bool, true, false, cond, List, [], ◌∷◌, map, filter, sum_by, Option, Some, None, IsSome, inl, inr, refl, sym, ap, ◌∙◌, subst, arith, eqb}
use Rattle.std.specs.Str.{bytes_eq}
use Rattle.std.specs.List.{AllByRecursion}
use Rattle.std.specs.Set.{is_member}
use Rattle.std.specs.FinMap as finite
use Rattle.std.proofs.lemmas.Bool.{false≢true, or_left, or_right, or_cases, eqb-true, eq-eqb}
use Rattle.std.proofs.lemmas.Cmp.{nat_cmp_total}
use Rattle.std.proofs.lemmas.Option.{none-some, same_Some}
use Rattle.std.proofs.lemmas.List.Sums.{sum_by-cons}
use Rattle.pitch_fields.specs.declared.side.Side.{Side}
use Rattle.pitch_fields.specs.declared.side.Side.TheVariants.{Buy, Sell}
use Rattle.pitch_messages.specs.declared.order.Order.{Order}
use Rattle.pitch_model.specs.Book.{Book, IsBook}
use Rattle.pitch_model.specs.Levels.{same_side, better, level, best, orders_on, orders_of, prices_on}
use Rattle.pitch_model.proofs.Prices.{best-some, best-none}
use Rattle.pitch_model.proofs.Putting.{all_found, sorted_entries}
use Rattle.best_quotes.specs.Leveling.{standing, Entries, level_in, Has, IsNearest}

abbrev at_price : ℕ → List Order → ℕ
at_price price orders = sum_by (λ order. order.quantity) (filter (λ order. price == order.price) orders)

-- ---- Levels and prices
-- where shares are open at a price, an order has it
has_order : (price : ℕ) (orders : List Order) → (at_price price orders ≡ 0 → ⊥) → is_member eqb (map (λ order. order.price) orders) price ≡ true
has_order price [] some = absurd (some refl)
has_order price (x ∷ xs) some = by (price == x.price) refl some (has_order price xs)
  where
    by : (t : Bool) → (price == x.price) ≡ t → (sum_by (λ order. order.quantity) (cond t (x ∷ filter (λ order. price == order.price) xs) (filter (λ order. price == order.price) xs)) ≡ 0 → ⊥)
        → ((at_price price xs ≡ 0 → ⊥) → is_member eqb (map (λ order. order.price) xs) price ≡ true) → (eqb price x.price || is_member eqb (map (λ order. order.price) xs) price) ≡ true
    by true e some rec = or_left (eqb price x.price) (is_member eqb (map (λ order. order.price) xs) price) e
    by false e some rec = or_right (eqb price x.price) (is_member eqb (map (λ order. order.price) xs) price) (rec some)

-- where an order with shares has a price, shares are open at it
has_shares : (price : ℕ) (orders : List Order) → AllByRecursion (λ order. 0 < order.quantity) orders → is_member eqb (map (λ order. order.price) orders) price ≡ true → 0 < at_price price orders
has_shares price [] all there = absurd (false≢true there)
has_shares price (x ∷ xs) all there = by (price == x.price) refl there (has_shares price xs all.1)
  where
    by : (t : Bool) → (price == x.price) ≡ t → (eqb price x.price || is_member eqb (map (λ order. order.price) xs) price) ≡ true → (is_member eqb (map (λ order. order.price) xs) price ≡ true → 0 < at_price price xs)
        → 0 < sum_by (λ order. order.quantity) (cond t (x ∷ filter (λ order. price == order.price) xs) (filter (λ order. price == order.price) xs))
    by true e there rec =
        let sum = sum_by-cons (λ (order : Order). order.quantity) x (filter (λ order. price == order.price) xs) in
        let first = all.0 in
        omega arith
    by false e there rec = elim (or_cases (eqb price x.price) (is_member eqb (map (λ order. order.price) xs) price) there) [
      | inl here ↦ absurd (false≢true (sym e ∙ here))
      | inr later ↦ rec later
    ]

all_values : (es : List (ℕ × Order)) → AllByRecursion (λ e. 0 < e.1.quantity) es → AllByRecursion (λ order. 0 < order.quantity) (map (λ e. e.1) es)
all_values [] all = tt
all_values (e ∷ es) all = (all.0, all_values es all.1)

all_passing : (p : Order → Bool) (orders : List Order) → AllByRecursion (λ order. 0 < order.quantity) orders → AllByRecursion (λ order. 0 < order.quantity) (filter p orders)
all_passing p [] all = tt
all_passing p (x ∷ xs) all = by (p x) (all_passing p xs all.1)
  where
    by : (t : Bool) → AllByRecursion (λ order. 0 < order.quantity) (filter p xs) → AllByRecursion (λ order. 0 < order.quantity) (cond t (x ∷ filter p xs) (filter p xs))
    by true rec = (all.0, rec)
    by false rec = rec

module _ (book : Book) (is : IsBook book) (symbol : List ℕ) (side : Side) where
  filled_on : AllByRecursion (λ order. 0 < order.quantity) (orders_on book symbol side)
  filled_on = all_passing (λ order. bytes_eq symbol order.symbol && same_side side order.side) (orders_of book)
      (all_values (finite.entries book.orders) (all_found nat_cmp_total finite.nat_cmp-IsAntisymmetric (λ id order. 0 < order.quantity) (finite.entries book.orders) (sorted_entries book.orders) (λ id order f. is.filled id order (finite.get-entries book.orders id ∙ f))))

  pub level_has_order : (price : ℕ) → (level book symbol side price ≡ 0 → ⊥) → is_member eqb (prices_on book symbol side) price ≡ true
  unfolding level
  level_has_order price some = has_order price (orders_on book symbol side) some

  pub price_has_level : (price : ℕ) → is_member eqb (prices_on book symbol side) price ≡ true → 0 < level book symbol side price
  unfolding level
  price_has_level price there = has_shares price (orders_on book symbol side) filled_on there

  pub none_open : (price : ℕ) → orders_on book symbol side ≡ [] → level book symbol side price ≡ 0
  unfolding level
  none_open price none = ap (at_price price) none

  same_price : (p q : ℕ) → better side p q ≡ p → better side q p ≡ q → p ≡ q
  same_price p q a b = by side a b
    where
      by : (side : Side) → better side p q ≡ p → better side q p ≡ q → p ≡ q
      by Buy a b = omega arith
      by Sell a b = omega arith

  -- a level that none is better than is the best
  pub level_is_best : (p n : ℕ) → level book symbol side p ≡ n → (n ≡ 0 → ⊥) → ((q : ℕ) → 0 < level book symbol side q → better side p q ≡ p) → Some (p, n) ≡ best book symbol side
  level_is_best p n has some none_better = by (best book symbol side) refl
    where
      by : (o : Option (ℕ × ℕ)) → best book symbol side ≡ o → Some (p, n) ≡ o
      by None e = absurd (some (sym has ∙ none_open p (best-none book symbol side e)))
      by (Some found) e =
          let is_best = best-some book symbol side found.0 found.1 e in
          let there = level_has_order p (λ zero. some (sym has ∙ zero)) in
          let same = same_price p found.0 (none_better found.0 (price_has_level found.0 is_best.0.stands)) (is_best.0.none_better p there) in
          λ i. Some (same i, (sym has ∙ ap (level book symbol side) same ∙ sym is_best.1) i)

  -- and where none is there, there is no best
  pub no_level_no_best : ((q : ℕ) → level book symbol side q ≡ 0) → None ≡ best book symbol side
  no_level_no_best none = by (best book symbol side) refl
    where
      by : (o : Option (ℕ × ℕ)) → best book symbol side ≡ o → None ≡ o
      by None e = refl
      by (Some found) e =
          let is_best = best-some book symbol side found.0 found.1 e in
          let there = price_has_level found.0 is_best.0.stands in
          let zero = none found.0 in
          absurd (omega arith)

-- ---- What stands in the map
standing_some : (n m : ℕ) → standing n ≡ Some m → (n ≡ m) × (m ≡ 0 → ⊥)
standing_some n m e = by (n == 0) refl e
  where
    by : (t : Bool) → (n == 0) ≡ t → cond t None (Some n) ≡ Some m → (n ≡ m) × (m ≡ 0 → ⊥)
    by true f e = absurd (none-some m e)
    by false f e = let same = same_Some n m e in (same, λ zero. false≢true (sym f ∙ eq-eqb n 0 (same ∙ zero)))

standing_none : (n : ℕ) → standing n ≡ None → n ≡ 0
standing_none n e = by (n == 0) refl e
  where
    by : (t : Bool) → (n == 0) ≡ t → cond t None (Some n) ≡ None → n ≡ 0
    by true f e = eqb-true n 0 f
    by false f e = absurd (none-some n (sym e))

standing_is_some : (n : ℕ) → 0 < n → IsSome (standing n)
standing_is_some n some = by (n == 0) refl
  where
    by : (t : Bool) → (n == 0) ≡ t → IsSome (cond t None (Some n))
    by true f = let zero = eqb-true n 0 f in absurd (omega arith)
    by false f = refl

-- the nearest level is the best
pub nearest_is_best : (levels : Entries) (symbol : List ℕ) (side : Side) (book : Book) → IsBook book → Has levels (level book)
    → (found : Option (ℕ × ℕ)) → IsNearest side (level_in levels symbol side) found → found ≡ best book symbol side
nearest_is_best levels symbol side book is has None near =
    no_level_no_best book is symbol side (λ q. standing_none (level book symbol side q) (sym (has symbol side q) ∙ near q))
nearest_is_best levels symbol side book is has (Some found) near =
    let parts = standing_some (level book symbol side found.0) found.1 (sym (has symbol side found.0) ∙ near.0) in
    level_is_best book is symbol side found.0 found.1 parts.0 parts.1
    (λ q some. near.1 q (subst IsSome (sym (has symbol side q)) (standing_is_some (level book symbol side q) some)))
