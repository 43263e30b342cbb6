-- Levels in maps: for each symbol what is open on either side at each price, where anything is.
use Rattle.std.specs.Prelude.{◌≡◌, ℕ, ◌+◌, ◌-◌, ◌==◌, false, List, bytes_eq, Option, Some, None}
use Rattle.std.specs.Prelude.{IsSome, if◌then◌else◌}
use Rattle.std.specs.Map.{lookup}
use Rattle.std.specs.Option.{IsSomeAnd}
use Rattle.std.specs.Ordering.{nat_cmp}
use Rattle.std.specs.BTreeMap.{BTreeMap, get}
use Rattle.pitch_fields.specs.declared.side.Side.{Side}
use Rattle.pitch_fields.specs.declared.side.Side.TheVariants.{Buy, Sell}
use Rattle.pitch_messages.specs.declared.order.Order.{Order}
use Rattle.pitch_model.specs.Levels.{better}
use Rattle.best_quotes.specs.Balance.{shares_of}
use Rattle.best_quotes.specs.declared.levels.Sides.{Sides}

-- shares that stand in a map: none stand as nothing
abbrev pub standing : ℕ → Option ℕ
standing n = if n == 0 then None else Some n

-- ---- One side of a symbol
-- the shares at each price
abbrev pub Prices : Type 0
Prices = BTreeMap ℕ ℕ

-- a map has so many shares at each price, and no others
abbrev pub HasPrices : Prices → (ℕ → ℕ) → Type 0
HasPrices prices shares = (price : ℕ) → get nat_cmp prices price ≡ standing (shares price)

-- the shares at a price were set to so many, and no others changed
abbrev pub SetsPrice : Prices → ℕ → ℕ → Prices → Type 0
SetsPrice prices price n prices' =
    (other : ℕ)
    → get nat_cmp prices' other ≡ (if price == other then standing n else get nat_cmp prices other)

-- the shares of an order at a price; none where it has another one
abbrev pub priced : ℕ → Option Order → ℕ
priced price None = 0
priced price (Some order) = if price == order.price then order.quantity else 0

-- shares without those of one order, and with those of another
abbrev pub moved_at : Option Order → Option Order → (ℕ → ℕ) → ℕ → ℕ
moved_at before now shares = λ price. (shares price - priced price before) + priced price now

-- an order, where there is one, has another price
abbrev pub IsElsewhere : ℕ → Option Order → Type 0
IsElsewhere price None = Unit {0}
IsElsewhere price (Some order) = (order.price == price) ≡ false

-- one order became another: their shares moved, and at other prices stands what stood there
pub record MovesPrices (before now : Option Order) (prices prices' : Prices) : Type 0 where
  pub moves : (shares : ℕ → ℕ)
      → HasPrices prices shares → HasPrices prices' (moved_at before now shares)
  pub others : (price : ℕ) → IsElsewhere price before → IsElsewhere price now
      → get nat_cmp prices' price ≡ get nat_cmp prices price

-- a price with its shares, which none of the others is better than; or there is none
abbrev pub IsNearest : Side → (ℕ → Option ℕ) → Option (ℕ × ℕ) → Type 0
IsNearest side shares None = (price : ℕ) → shares price ≡ None
IsNearest side shares (Some best) =
    (shares best.0 ≡ Some best.1)
    × ((price : ℕ) → IsSome (shares price) → better side best.0 price ≡ best.0)

-- an order, where there is one, has a worse price than this
abbrev pub IsWorse : Side → ℕ → Option Order → Type 0
IsWorse side price None = Unit {0}
IsWorse side price (Some order) =
    (better side price order.price ≡ price) × ((order.price == price) ≡ false)

-- there is a best, and either order is worse
abbrev pub AreWorse : Side → Option (ℕ × ℕ) → Option Order → Option Order → Type 0
AreWorse side best before now =
    IsSomeAnd best (λ b. IsWorse side b.0 before × IsWorse side b.0 now)

-- ---- All symbols
abbrev pub Entries : Type 0
Entries = List (List ℕ × Sides)

abbrev pub side_of : Side → Sides → Prices
side_of Buy sides = sides.buy
side_of Sell sides = sides.sell

-- the best of each side of a symbol
pub record AreBests (sides : Sides) (bid offer : Option (ℕ × ℕ)) : Type 0 where
  pub bid_is : IsNearest Buy (get nat_cmp sides.buy) bid
  pub offer_is : IsNearest Sell (get nat_cmp sides.sell) offer

-- what stands at a price of a side, where the symbol has sides
abbrev pub level_of : Side → ℕ → Option Sides → Option ℕ
level_of side price None = None
level_of side price (Some sides) = get nat_cmp (side_of side sides) price

-- what stands for a symbol on a side at a price
abbrev pub level_in : Entries → List ℕ → Side → ℕ → Option ℕ
level_in levels symbol side price = level_of side price (lookup (bytes_eq symbol) levels)

-- shares by symbol, side and price
abbrev pub Shares : Type 0
Shares = List ℕ → Side → ℕ → ℕ

-- the levels have these shares, and no others
abbrev pub Has : Entries → Shares → Type 0
Has levels shares =
    (symbol : List ℕ) (side : Side) (price : ℕ)
    → level_in levels symbol side price ≡ standing (shares symbol side price)

-- the same stands in both
abbrev pub SameLevels : Entries → Entries → Type 0
SameLevels levels levels' =
    (symbol : List ℕ) (side : Side) (price : ℕ)
    → level_in levels' symbol side price ≡ level_in levels symbol side price

-- shares without those of one order, and with those of another
abbrev pub moved : Option Order → Option Order → Shares → Shares
moved before now shares = λ symbol side price.
    (shares symbol side price - shares_of symbol side price before)
    + shares_of symbol side price now

-- an order is one of a symbol on a side, where there is one
abbrev pub IsOn : List ℕ → Side → Option Order → Type 0
IsOn symbol side None = Unit {0}
IsOn symbol side (Some order) = (order.symbol ≡ symbol) × (order.side ≡ side)

-- one order became another in the levels
abbrev pub MovesLevels : Option Order → Option Order → Entries → Entries → Type 0
MovesLevels before now levels levels' =
    (shares : Shares) → Has levels shares → Has levels' (moved before now shares)

-- one order of a symbol on a side became another one of it, and these are the bests of the side
-- before and after
pub record TurnsSide (levels levels' : Entries) (symbol : List ℕ) (side : Side)
    (before now : Option Order) (bests : Option (ℕ × ℕ) × Option (ℕ × ℕ)) : Type 0 where
  pub moves : MovesLevels before now levels levels'
  pub was : IsNearest side (level_in levels symbol side) bests.0
  pub is : IsNearest side (level_in levels' symbol side) bests.1
