-- A message that turns one book into another, its levels into the other's, and tells the changes.
use Rattle.std.specs.Prelude.{◌≡◌, ◌⊎◌, ℕ, ◌+◌, true, IsSome, List, ◌++◌, fold, Option, None, Some}
use Rattle.std.specs.List.{flat_map}
use Rattle.std.specs.Ordering.{nat_cmp}
use Rattle.std.specs.Cmp.Lexicographic.{slice_cmp}
use Rattle.std.specs.BTreeSet.{BTreeSet, contains}
use Rattle.std.specs.FinMap as finite
use Rattle.pitch_fields.specs.declared.side.Side.{Side}
use Rattle.pitch_fields.specs.declared.side.Side.TheVariants.{Buy, Sell}
use Rattle.pitch_messages.specs.declared.order.Order.{Order}
use Rattle.order_book.specs.Turns.{turn_of, turns_of}
use Rattle.order_book.specs.declared.turn.Turn.{Turn}
use Rattle.pitch_model.specs.Book.{Book, IsBook, after}
use Rattle.pitch_model.specs.History.{Raw}
use Rattle.pitch_model.specs.Levels.{level, best}
use Rattle.best_quotes.specs.Balance.{shares_of}
use Rattle.best_quotes.specs.Changes.{changes, change_between}
use Rattle.best_quotes.specs.Leveling.{Entries, Has, level_in}
use Rattle.best_quotes.specs.LastBest.{quoted}
use Rattle.best_quotes.specs.declared.quote.Quote.{Quote}
use Rattle.best_quotes.specs.declared.quote.QuoteLine.{QuoteLine}
use Rattle.best_quotes.specs.declared.bests.Bests.{Bests}

-- the bests of both sides of a symbol
abbrev pub bests_of : Book → List ℕ → Bests
bests_of book symbol = record { buy = best book symbol Buy; sell = best book symbol Sell }

-- the quotes of a symbol whose bests become others
abbrev pub changes_between : List ℕ → Bests → Bests → List Quote
changes_between symbol before now =
    change_between symbol Buy before.buy now.buy ++ change_between symbol Sell before.sell now.sell

-- the levels of the new book are those of the old one, without the old order of the id and with
-- the new one
abbrev pub Moves : Book → Book → ℕ → Type 0
Moves old new id = (symbol : List ℕ) (side : Side) (price : ℕ)
    → level new symbol side price + shares_of symbol side price (finite.get old.orders id)
    ≡ level old symbol side price + shares_of symbol side price (finite.get new.orders id)

-- an order of an id becomes another
pub record Becomes (old new : Book) (id : ℕ) (before now : Option Order) : Type 0 where
  pub was : finite.get old.orders id ≡ before
  pub is : finite.get new.orders id ≡ now
  pub moves : Moves old new id

-- the levels of the old book became those of the new one, and the changes were told
pub record Turned (old new : Book) (levels' : Entries) (told told' : List Quote) : Type 0 where
  pub has : Has levels' (level new)
  pub tells : told' ≡ told ++ changes old new

abbrev pub Turns : Book → Book → Entries → Entries → List Quote → List Quote → Type 0
Turns old new levels levels' told told' =
    IsBook old → IsBook new → Has levels (level old) → Turned old new levels' told told'

-- the same of any two books of which the second has one order in the place of another
abbrev pub TurnsOrder
    : Option Order → Option Order → Entries → Entries → List Quote → List Quote → Type 0
TurnsOrder before now levels levels' told told' =
    (old new : Book) (id : ℕ) → Becomes old new id before now
    → Turns old new levels levels' told told'

-- an order is one of a symbol, where there is one
abbrev pub IsOf : List ℕ → Option Order → Type 0
IsOf symbol None = Unit {0}
IsOf symbol (Some order) = order.symbol ≡ symbol

-- an order is one of either symbol, where there is one
abbrev pub IsOfTwo : List ℕ → List ℕ → Option Order → Type 0
IsOfTwo first second None = Unit {0}
IsOfTwo first second (Some order) = (order.symbol ≡ first) ⊎ (order.symbol ≡ second)

-- neither side of a symbol has an order
abbrev pub no_bests : Bests
no_bests = record { buy = None; sell = None }

-- the quotes of symbols all of whose orders go
abbrev pub gone : Book → List (List ℕ) → List Quote
gone book symbols =
    flat_map (λ symbol. changes_between symbol (bests_of book symbol) no_bests) symbols

-- a set has each symbol for which something is open
abbrev pub HasSymbols : Entries → BTreeSet (List ℕ) → Type 0
HasSymbols levels symbols =
    (symbol : List ℕ) (side : Side) (price : ℕ) → IsSome (level_in levels symbol side price)
    → contains (slice_cmp nat_cmp) symbols symbol ≡ true

-- no order is open
abbrev pub AreGone : Book → Type 0
AreGone book = book.orders ≡ finite.empty

-- ---- What messages did to the orders
-- the same of any book and any message that did this to its orders
abbrev pub TurnsLevels : Turn → Entries → Entries → List Quote → List Quote → Type 0
TurnsLevels turn levels levels' told told' =
    (book : Book) (raw : Raw) → turn ≡ turn_of book raw
    → Turns book (after book raw) levels levels' told told'

-- the levels of a book became those that messages leave, and the lines of these were told
pub record IsTurned (first : ℕ) (book : Book) (raws : List Raw)
    (levels' : Entries) (lines lines' : List QuoteLine) : Type 0 where
  pub has : Has levels' (level (fold after book raws))
  pub tells : lines' ≡ lines ++ quoted first book raws

-- of any book and any messages that did all this to its orders, the first with this sequence
abbrev pub TurnsEach
    : ℕ → List Turn → Entries → Entries → List QuoteLine → List QuoteLine → Type 0
TurnsEach first turns levels levels' lines lines' =
    (book : Book) (raws : List Raw) → IsBook book → turns ≡ turns_of book raws
    → Has levels (level book) → IsTurned first book raws levels' lines lines'
