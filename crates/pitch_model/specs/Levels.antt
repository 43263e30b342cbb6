-- Prices and shares of a book.
use Rattle.std.specs.Prelude.{◌≡◌, ℕ, nat_eq, Bool, true, false, ◌==◌, ◌&&◌, List, [], ◌∷◌, Option}
use Rattle.std.specs.Prelude.{None, Some, map, filter, sum_by, max, min, option_map, bytes_eq}
use Rattle.std.specs.Option.{option_map_or}
use Rattle.std.specs.Set.{is_member}
use Rattle.std.specs.FinMap as finite
use Rattle.pitch_fields.specs.declared.side.Side.{Side}
use Rattle.pitch_fields.specs.declared.side.Side.TheVariants.{Buy, Sell}
use Rattle.pitch_messages.specs.declared.order.Order.{Order}
use Rattle.pitch_model.specs.Book.{Book}

-- the open orders, by rising id
abbrev pub orders_of : Book → List Order
orders_of book = finite.values book.orders

abbrev pub same_side : Side → Side → Bool
same_side Buy Buy = true
same_side Sell Sell = true
same_side Buy Sell = false
same_side Sell Buy = false

-- the open orders of a symbol on a side
abbrev pub orders_on : Book → List ℕ → Side → List Order
orders_on book symbol side =
    filter (λ order. bytes_eq symbol order.symbol && same_side side order.side) (orders_of book)

-- the shares that are open for a symbol on a side at a price
unfoldable pub level : Book → List ℕ → Side → ℕ → ℕ
level book symbol side price =
    sum_by (λ order. order.quantity)
    (filter (λ order. price == order.price) (orders_on book symbol side))

-- the prices of these orders
abbrev pub prices_on : Book → List ℕ → Side → List ℕ
prices_on book symbol side = map (λ order. order.price) (orders_on book symbol side)

-- to buy, a higher price is better, and to sell a lower one
abbrev pub better : Side → ℕ → ℕ → ℕ
better Buy p q = max p q
better Sell p q = min p q

-- the best of some prices
abbrev pub best_of : Side → List ℕ → Option ℕ
best_of side [] = None
best_of side (p ∷ ps) = Some (option_map_or (better side p) (best_of side ps) p)

-- what that means: it is one of them, and no other is better
pub record IsBestOf (side : Side) (ps : List ℕ) (p : ℕ) : Type 0 where
  pub stands : is_member nat_eq ps p ≡ true
  pub none_better : (q : ℕ) → is_member nat_eq ps q ≡ true → better side p q ≡ p

abbrev pub with_level : Book → List ℕ → Side → ℕ → ℕ × ℕ
with_level book symbol side price = (price, level book symbol side price)

-- the best price of a symbol on a side, with its shares; none where the side has no order
unfoldable pub best : Book → List ℕ → Side → Option (ℕ × ℕ)
best book symbol side =
    option_map (with_level book symbol side) (best_of side (prices_on book symbol side))

-- the shares of all open orders
unfoldable pub shares : Book → ℕ
shares book = sum_by (λ order. order.quantity) (orders_of book)
