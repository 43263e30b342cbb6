-- Which orders a plan leaves open, and how many of its commands are promised.
use Rattle.std.specs.Prelude.{ℕ, zero, suc, ◌+◌, ◌*◌, ◌%◌, true, ◌==◌, List, [], ◌∷◌, ◌++◌}
use Rattle.std.specs.Prelude.{if◌then◌else◌}
use Rattle.pitch_fields.specs.declared.side.Side.TheVariants.{Buy, Sell}
use Rattle.pitch_messages.specs.declared.order.Order.{Order}
use Rattle.pitch_model.specs.Book.{reduced_by, modified}
use Rattle.venue_core.specs.Plan.{plan_quantity, plan_price, plan_order}

-- how many commands of the plan are promised to be accepted
abbrev pub most_planned : ℕ
most_planned = 400000

-- ---- What it leaves
-- what is left of the buy of round j: it was executed in part, and then modified
abbrev pub buy_left : ℕ → ℕ → ℕ → Order
buy_left number unit j =
    modified (plan_quantity number unit (8 * j + 6)) (plan_price number (8 * j + 6)) true
    (plan_order number unit (8 * j + 2) Buy (plan_price number (8 * j + 2)))

-- what is left of the sell of round j: it was reduced
abbrev pub sell_left : ℕ → ℕ → ℕ → Order
sell_left number unit j =
    reduced_by 20 (plan_order number unit (8 * j + 3) Sell (plan_price number (8 * j + 3) + 10000))

-- the second buy of round j
abbrev pub second_buy : ℕ → ℕ → ℕ → Order
second_buy number unit j =
    plan_order number unit (8 * j + 7) Buy (plan_price number (8 * j + 7) + 1)

-- what is left of the second buy of round j: an even round deletes it
abbrev pub second_buy_left : ℕ → ℕ → ℕ → List Order
second_buy_left number unit j = if j % 2 == 0 then [] else second_buy number unit j ∷ []

-- the orders that the first j rounds leave, by rising id
unfoldable pub orders_left : ℕ → ℕ → ℕ → List Order
orders_left number unit zero = []
orders_left number unit (suc j) =
    orders_left number unit j
    ++ buy_left number unit j ∷ sell_left number unit j ∷ second_buy_left number unit j
