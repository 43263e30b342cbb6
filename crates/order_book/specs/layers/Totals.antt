-- Shares of some orders.
use Rattle.std.specs.Prelude.{ℕ, Bool, ◌+◌, ◌==◌, ◌&&◌, cond, List, map, filter, sum_by, bytes_eq}
use Rattle.std.specs.Prelude.{Option, None, Some, option_map}
use Rattle.pitch_fields.specs.declared.side.Side.{Side}
use Rattle.pitch_messages.specs.declared.order.Order.{Order}
use Rattle.pitch_model.specs.Levels.{same_side, better, best_of}

-- an order is for a symbol on a side
abbrev pub is_on : List ℕ → Side → Order → Bool
is_on symbol side order = bytes_eq symbol order.symbol && same_side side order.side

-- the shares of some orders
abbrev pub quantities : List Order → ℕ
quantities orders = sum_by (λ order. order.quantity) orders

-- the best price of some orders of a side, with their shares at it
abbrev pub best_level : Side → List Order → Option (ℕ × ℕ)
best_level side orders =
    option_map (λ price. (price, quantities (filter (λ order. price == order.price) orders)))
    (best_of side (map (λ order. order.price) orders))

-- one more order: what the best level had, and what the order has, at the better price
abbrev pub level_with : Side → Option (ℕ × ℕ) → Order → ℕ × ℕ
level_with side None order = (order.price, order.quantity)
level_with side (Some level) order =
    let price = better side level.0 order.price in
    (price, cond (price == level.0) level.1 0 + cond (price == order.price) order.quantity 0)
