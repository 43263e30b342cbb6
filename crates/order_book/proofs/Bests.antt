-- The best of some prices.
use Rattle.std.proofs.Common.{◌≡◌, ℕ, ◌+◌, Bool, true, false, cond, ◌==◌, List, [], ◌∷◌, map, filter, Option, Some, None, refl, sym, ap, ◌∙◌, inl, inr, arith}
use Rattle.std.specs.Option.{option_map_or}
use Rattle.std.proofs.lemmas.Bool.{eq-eqb, ne_eqb}
use Rattle.std.proofs.lemmas.Bool.Decides.{eqb_tells}
use Rattle.std.proofs.lemmas.List.Sums.{sum_by-cons}
use Rattle.pitch_messages.specs.declared.order.Order.{Order}
use Rattle.pitch_fields.specs.declared.side.Side.{Side}
use Rattle.pitch_fields.specs.declared.side.Side.TheVariants.{Buy, Sell}
use Rattle.pitch_model.specs.Levels.{better, best_of}
use Rattle.order_book.specs.layers.Totals.{quantities, best_level, level_with}

-- one more price
abbrev pub with_price : Side → ℕ → Option ℕ → Option ℕ
with_price side p o = Some (option_map_or (better side p) o p)

better_swap : (side : Side) (p q r : ℕ) → better side p (better side q r) ≡ better side q (better side p r)
better_swap Buy p q r = omega arith
better_swap Sell p q r = omega arith

better_sym : (side : Side) (p q : ℕ) → better side p q ≡ better side q p
better_sym Buy p q = omega arith
better_sym Sell p q = omega arith

pub prices_swap : (side : Side) (p q : ℕ) (o : Option ℕ) → with_price side p (with_price side q o) ≡ with_price side q (with_price side p o)
prices_swap side p q None = ap Some (better_sym side p q)
prices_swap side p q (Some r) = ap Some (better_swap side p q r)

-- ---- The best level of what was seen, and of orders that come
abbrev pub best_from : Side → List Order → ℕ → ℕ
best_from side orders p = option_map_or (better side p) (best_of side (map (λ order. order.price) orders)) p

abbrev pub at : ℕ → List Order → ℕ
at p orders = quantities (filter (λ order. p == order.price) orders)

abbrev pub level_from : Side → Option (ℕ × ℕ) → List Order → Option (ℕ × ℕ)
level_from side None orders = best_level side orders
level_from side (Some level) orders =
    let price = best_from side orders level.0 in
    Some (price, cond (price == level.0) level.1 0 + at price orders)

pub level_from-nil : (side : Side) (best : Option (ℕ × ℕ)) → level_from side best [] ≡ best
level_from-nil side None = refl
level_from-nil side (Some level) = ap (λ (b : Bool). Some (level.0, cond b level.1 0 + 0)) (eq-eqb level.0 level.0 refl) ∙ ap (λ (n : ℕ). Some (level.0, n)) (omega arith)

at_cons : (p : ℕ) (order : Order) (orders : List Order) → at p (order ∷ orders) ≡ cond (p == order.price) order.quantity 0 + at p orders
at_cons p order orders = by (p == order.price)
  where
    by : (b : Bool) → quantities (cond b (order ∷ filter (λ o. p == o.price) orders) (filter (λ o. p == o.price) orders)) ≡ cond b order.quantity 0 + at p orders
    by true = sum_by-cons (λ (o : Order). o.quantity) order (filter (λ o. p == o.price) orders)
    by false = omega arith

better_in_turn : (side : Side) (p q r : ℕ) → better side (better side p q) r ≡ better side p (better side q r)
better_in_turn Buy p q r = omega arith
better_in_turn Sell p q r = omega arith

from_better : (side : Side) (p : ℕ) (order : Order) (orders : List Order) → best_from side orders (better side p order.price) ≡ best_from side (order ∷ orders) p
from_better side p order orders = by (best_of side (map (λ o. o.price) orders))
  where
    by : (o : Option ℕ) → option_map_or (better side (better side p order.price)) o (better side p order.price) ≡ better side p (option_map_or (better side order.price) o order.price)
    by None = refl
    by (Some r) = better_in_turn side p order.price r

as_good : (side : Side) (p : ℕ) (orders : List Order) → better side p (best_from side orders p) ≡ best_from side orders p
as_good side p orders = by side (best_of side (map (λ o. o.price) orders))
  where
    by : (side : Side) (o : Option ℕ) → better side p (option_map_or (better side p) o p) ≡ option_map_or (better side p) o p
    by Buy None = omega arith
    by Sell None = omega arith
    by Buy (Some r) = omega arith
    by Sell (Some r) = omega arith

is_first : (side : Side) (p q r : ℕ) → better side (better side p q) r ≡ r → r ≡ p → r ≡ better side p q
is_first Buy p q r good same = omega arith
is_first Sell p q r good same = omega arith

is_second : (side : Side) (p q r : ℕ) → better side (better side p q) r ≡ r → r ≡ q → r ≡ better side p q
is_second Buy p q r good same = omega arith
is_second Sell p q r good same = omega arith

-- what two prices have at one that is as good as both
both_at : (side : Side) (p q r n m : ℕ) → better side (better side p q) r ≡ r → cond (r == better side p q) (cond (better side p q == p) n 0 + cond (better side p q == q) m 0) 0 ≡ cond (r == p) n 0 + cond (r == q) m 0
both_at side p q r n m good = elim (eqb_tells r (better side p q)) [
  | inl (on, same) ↦ ap (λ (b : Bool). cond b (cond (better side p q == p) n 0 + cond (better side p q == q) m 0) 0) on ∙ ap (λ (c : ℕ). cond (c == p) n 0 + cond (c == q) m 0) (sym same)
  | inr (off, other) ↦
      ap (λ (b : Bool). cond b (cond (better side p q == p) n 0 + cond (better side p q == q) m 0) 0) off
      ∙ sym (ap (λ (b : Bool). cond b n 0 + cond (r == q) m 0) (ne_eqb r p (λ e. other (is_first side p q r good e)))
      ∙ ap (λ (b : Bool). 0 + cond b m 0) (ne_eqb r q (λ e. other (is_second side p q r good e))))
]

sum_in_turn : (a b c : ℕ) → (a + b) + c ≡ a + (b + c)
sum_in_turn a b c = omega arith

pub level_from-cons : (side : Side) (best : Option (ℕ × ℕ)) (order : Order) (orders : List Order) → level_from side (Some (level_with side best order)) orders ≡ level_from side best (order ∷ orders)
level_from-cons side None order orders =
    let price = best_from side orders order.price in
    ap (λ (n : ℕ). Some (price, n)) (sym (at_cons price order orders))
level_from-cons side (Some level) order orders =
    let price = best_from side orders (better side level.0 order.price) in
    ap (λ (n : ℕ). Some (price, n + at price orders)) (both_at side level.0 order.price price level.1 order.quantity (as_good side (better side level.0 order.price) orders))
    ∙ ap (λ (n : ℕ). Some (price, n)) (sum_in_turn (cond (price == level.0) level.1 0) (cond (price == order.price) order.quantity 0) (at price orders))
    ∙ ap (λ (n : ℕ). Some (price, cond (price == level.0) level.1 0 + n)) (sym (at_cons price order orders))
    ∙ ap (λ (p : ℕ). Some (p, cond (p == level.0) level.1 0 + at p (order ∷ orders))) (from_better side level.0 order orders)
