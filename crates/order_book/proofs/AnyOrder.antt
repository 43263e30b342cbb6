-- What some orders add up to does not depend on the order in which a map has its entries.
use Rattle.std.proofs.Common.{◌≡◌, ℕ, ◌+◌, Bool, true, false, cond, ◌==◌, List, [], ◌∷◌, map, filter, Option, Some, None, nat_eq, refl, sym, ap, ◌∙◌, arith}
use Rattle.std.specs.Option.{option_map}
use Rattle.std.specs.List.{IsDistinct}
use Rattle.std.specs.Map.{keys_of, values_of}
use Rattle.std.specs.Cmp.{nat_cmp_total}
use Rattle.std.specs.Ordering.{nat_cmp, is_eq}
use Rattle.std.specs.declared.cmp.Ordering.{Ordering}
use Rattle.std.specs.declared.cmp.Ordering.TheVariants.{Less, Equal, Greater}
use Rattle.std.specs.FinMap as finite
use Rattle.std.specs.FinMap.Entries.{by_order, put}
use Rattle.std.proofs.lemmas.Map.Keys.{IsDistinct-head, IsDistinct-tail}
use Rattle.std.proofs.lemmas.List.Sums.{sum_by-cons}
use Rattle.std.proofs.lemmas.List.{nil_from_length}
use Rattle.std.proofs.lemmas.Option.{none-some}
use Rattle.pitch_fields.specs.declared.side.Side.{Side}
use Rattle.pitch_messages.specs.declared.order.Order.{Order}
use Rattle.pitch_model.specs.Levels.{best_of, shares, level, with_level, best, prices_on}
use Rattle.order_book.specs.Symbols.{StatusMap}
use Rattle.order_book.specs.Standing.{book_of}
use Rattle.order_book.specs.layers.Totals.{is_on, quantities, best_level}
use Rattle.order_book.proofs.Maps.{id_keys, looks, absent}
use Rattle.order_book.proofs.Bests.{with_price, prices_swap}

no_entries : finite.entries (finite.empty {X = Order} {R = nat_cmp}) ≡ []
no_entries = nil_from_length _ (sym (finite.len-entries (finite.empty {X = Order} {R = nat_cmp})) ∙ finite.len-empty nat_cmp Order)

-- F adds up orders one after another, and the order of two that stand side by side does not matter
module _ {A : Type 0} (F : List Order → A) (add : Order → A → A) (step : (order : Order) (orders : List Order) → F (order ∷ orders) ≡ add order (F orders)) (swap : (x y : Order) (a : A) → add x (add y a) ≡ add y (add x a)) where
  put_anywhere : (k : ℕ) (v : Order) (es : List (ℕ × Order)) → finite.find nat_cmp k es ≡ None → F (values_of (put nat_cmp k v es)) ≡ add v (F (values_of es))
  put_anywhere k v [] none = step v []
  put_anywhere k v (e ∷ es) none = by (nat_cmp k e.0) none (put_anywhere k v es)
    where
      by : (r : Ordering) → cond (is_eq r) (Some e.1) (finite.find nat_cmp k es) ≡ None → (finite.find nat_cmp k es ≡ None → F (values_of (put nat_cmp k v es)) ≡ add v (F (values_of es))) → F (values_of (by_order r ((k, v) ∷ e ∷ es) ((e.0, v) ∷ es) (e ∷ put nat_cmp k v es))) ≡ add v (F (e.1 ∷ values_of es))
      by Less none later = step v (e.1 ∷ values_of es)
      by Equal none later = absurd (none-some e.1 (sym none))
      by Greater none later =
          step e.1 (values_of (put nat_cmp k v es))
          ∙ ap (add e.1) (later none)
          ∙ swap e.1 v (F (values_of es))
          ∙ ap (add v) (sym (step e.1 (values_of es)))

  pub any_order : (es : List (ℕ × Order)) → IsDistinct nat_eq (keys_of es) → F (values_of es) ≡ F (finite.values (finite.from_entries {R = nat_cmp} es))
  any_order [] d = ap (λ (l : List (ℕ × Order)). F (values_of l)) (sym no_entries)
  any_order (e ∷ es) d =
      let rest = finite.from_entries {R = nat_cmp} es in
      let none : finite.find nat_cmp e.0 (finite.entries rest) ≡ None = sym (finite.get-entries rest e.0) ∙ looks id_keys es e.0 ∙ absent nat_eq e.0 es (IsDistinct-head nat_eq e.0 (keys_of es) d) in
      step e.1 (values_of es)
      ∙ ap (add e.1) (any_order es (IsDistinct-tail nat_eq e.0 (keys_of es) d))
      ∙ sym (put_anywhere e.0 e.1 (finite.entries rest) none)
      ∙ ap (λ (l : List (ℕ × Order)). F (values_of l)) (sym (finite.entries-insert nat_cmp_total rest e.0 e.1))

-- ---- Sums
sum_step : (order : Order) (orders : List Order) → quantities (order ∷ orders) ≡ order.quantity + quantities orders
sum_step order orders = sum_by-cons (λ (o : Order). o.quantity) order orders

sum_swap : (x y : Order) (n : ℕ) → x.quantity + (y.quantity + n) ≡ y.quantity + (x.quantity + n)
sum_swap x y n = omega arith

pub shares_of : (second : Option ℕ) (es : List (ℕ × Order)) (statuses : StatusMap) → IsDistinct nat_eq (keys_of es) → quantities (values_of es) ≡ shares (book_of second es statuses)
unfolding shares
shares_of second es statuses unique = any_order quantities (λ order n. order.quantity + n) sum_step sum_swap es unique

-- the shares of those orders that pass two tests
module _ (on at : Order → Bool) where
  counted : List Order → ℕ
  counted orders = quantities (filter at (filter on orders))

  counted_add : Order → ℕ → ℕ
  counted_add order n = cond (on order) (cond (at order) (order.quantity + n) n) n

  counted_step : (order : Order) (orders : List Order) → counted (order ∷ orders) ≡ counted_add order (counted orders)
  unfolding counted counted_add
  counted_step order orders = by (on order)
    where
      inner : (c : Bool) → quantities (cond c (order ∷ filter at (filter on orders)) (filter at (filter on orders))) ≡ cond c (order.quantity + quantities (filter at (filter on orders))) (quantities (filter at (filter on orders)))
      inner true = sum_step order (filter at (filter on orders))
      inner false = refl

      by : (b : Bool) → quantities (filter at (cond b (order ∷ filter on orders) (filter on orders))) ≡ cond b (cond (at order) (order.quantity + quantities (filter at (filter on orders))) (quantities (filter at (filter on orders)))) (quantities (filter at (filter on orders)))
      by true = inner (at order)
      by false = refl

  counted_swap : (x y : Order) (n : ℕ) → counted_add x (counted_add y n) ≡ counted_add y (counted_add x n)
  unfolding counted_add
  counted_swap x y n = by (on x) (at x) (on y) (at y)
    where
      by : (a b c d : Bool) → cond a (cond b (x.quantity + cond c (cond d (y.quantity + n) n) n) (cond c (cond d (y.quantity + n) n) n)) (cond c (cond d (y.quantity + n) n) n) ≡ cond c (cond d (y.quantity + cond a (cond b (x.quantity + n) n) n) (cond a (cond b (x.quantity + n) n) n)) (cond a (cond b (x.quantity + n) n) n)
      by true true true true = omega arith
      by true true true false = refl
      by true true false d = refl
      by true false true true = refl
      by true false true false = refl
      by true false false d = refl
      by false b true true = refl
      by false b true false = refl
      by false b false d = refl

pub level_of : (second : Option ℕ) (es : List (ℕ × Order)) (statuses : StatusMap) (symbol : List ℕ) (side : Side) (price : ℕ) → IsDistinct nat_eq (keys_of es)
    → quantities (filter (λ order. price == order.price) (filter (is_on symbol side) (values_of es))) ≡ level (book_of second es statuses) symbol side price
unfolding level counted
level_of second es statuses symbol side price unique =
    any_order (counted (is_on symbol side) (λ order. price == order.price)) (counted_add (is_on symbol side) (λ order. price == order.price))
    (counted_step (is_on symbol side) (λ order. price == order.price)) (counted_swap (is_on symbol side) (λ order. price == order.price)) es unique

-- ---- The best price
module _ (side : Side) (on : Order → Bool) where
  chosen : List Order → Option ℕ
  chosen orders = best_of side (map (λ order. order.price) (filter on orders))

  chosen_add : Order → Option ℕ → Option ℕ
  chosen_add order o = cond (on order) (with_price side order.price o) o

  chosen_step : (order : Order) (orders : List Order) → chosen (order ∷ orders) ≡ chosen_add order (chosen orders)
  unfolding chosen chosen_add
  chosen_step order orders = by (on order)
    where
      by : (b : Bool) → best_of side (map (λ order. order.price) (cond b (order ∷ filter on orders) (filter on orders))) ≡ cond b (with_price side order.price (best_of side (map (λ order. order.price) (filter on orders)))) (best_of side (map (λ order. order.price) (filter on orders)))
      by true = refl
      by false = refl

  chosen_swap : (x y : Order) (o : Option ℕ) → chosen_add x (chosen_add y o) ≡ chosen_add y (chosen_add x o)
  unfolding chosen_add
  chosen_swap x y o = by (on x) (on y)
    where
      by : (a b : Bool) → cond a (with_price side x.price (cond b (with_price side y.price o) o)) (cond b (with_price side y.price o) o) ≡ cond b (with_price side y.price (cond a (with_price side x.price o) o)) (cond a (with_price side x.price o) o)
      by true true = prices_swap side x.price y.price o
      by true false = refl
      by false b = refl

pub price_of : (second : Option ℕ) (es : List (ℕ × Order)) (statuses : StatusMap) (symbol : List ℕ) (side : Side) → IsDistinct nat_eq (keys_of es)
    → best_of side (map (λ order. order.price) (filter (is_on symbol side) (values_of es))) ≡ best_of side (prices_on (book_of second es statuses) symbol side)
unfolding chosen
price_of second es statuses symbol side unique = any_order (chosen side (is_on symbol side)) (chosen_add side (is_on symbol side)) (chosen_step side (is_on symbol side)) (chosen_swap side (is_on symbol side)) es unique

same_answers : {A B : Type 0} → (f g : A → B) → ((a : A) → f a ≡ g a) → (o : Option A) → option_map f o ≡ option_map g o
same_answers f g same None = refl
same_answers f g same (Some a) = ap Some (same a)

-- the best level of the entries is the best of the book
pub best_of_entries : (second : Option ℕ) (es : List (ℕ × Order)) (statuses : StatusMap) (symbol : List ℕ) (side : Side) → IsDistinct nat_eq (keys_of es)
    → best_level side (filter (is_on symbol side) (values_of es)) ≡ best (book_of second es statuses) symbol side
unfolding best
best_of_entries second es statuses symbol side unique =
    let book = book_of second es statuses in
    same_answers (λ price. (price, quantities (filter (λ order. price == order.price) (filter (is_on symbol side) (values_of es))))) (with_level book symbol side) (λ price. ap (λ (n : ℕ). (price, n)) (level_of second es statuses symbol side price unique)) (best_of side (map (λ order. order.price) (filter (is_on symbol side) (values_of es))))
    ∙ ap (option_map (with_level book symbol side)) (price_of second es statuses symbol side unique)
