-- The book of one unit, its orders and trading statuses, and what each message does to it.
use Rattle.std.specs.Prelude.{◌≡◌, ℕ, ◌-◌, ◌<◌, Bool, ◌==◌, List, [], ◌∷◌, ◌++◌, fold, ◌*◌, Option}
use Rattle.std.specs.Prelude.{None, Some, Result, Ok, Err, if◌then◌else◌, bit_and, option_map}
use Rattle.std.specs.Ordering.{nat_cmp}
use Rattle.std.specs.Cmp.Lexicographic.{slice_cmp}
use Rattle.std.specs.declared.cmp.Ordering.{Ordering}
use Rattle.std.specs.FinMap as map
use Rattle.pitch_fields.specs.Name.{no_participant}
use Rattle.pitch_fields.specs.declared.side.Side.{Side}
use Rattle.pitch_messages.specs.declared.order.Order.{Order}
use Rattle.pitch_messages.specs.declared.message.Message.{Message}
use Rattle.pitch_messages.specs.declared.message.Message.TheVariants as messages
use Rattle.pitch_messages.specs.declared.message.ReadError.{ReadError}
use Rattle.pitch_messages.specs.Reading.{reads}
use Rattle.pitch_model.specs.declared.order_change.OrderChange.{OrderChange}
use Rattle.pitch_model.specs.declared.order_change.OrderChange.TheVariants.{Reduced, Left, Modified}

-- symbols by their bytes, the first of them first
abbrev pub symbol_cmp : List ℕ → List ℕ → Ordering
symbol_cmp = slice_cmp nat_cmp

-- the second of the unit's clock, where one is known, the open orders by their ids, and by its
-- symbol each trading status, which is a halt byte and a sho byte
pub record Book : Type 0 where
  pub second : Option ℕ
  pub orders : map.FinMap nat_cmp Order
  pub statuses : map.FinMap symbol_cmp (ℕ × ℕ)

-- each order stands under its id, and has shares
pub record IsBook (book : Book) : Type 0 where
  pub ids : (id : ℕ) (order : Order) → map.get book.orders id ≡ Some order → order.id ≡ id
  pub filled : (id : ℕ) (order : Order) → map.get book.orders id ≡ Some order → 0 < order.quantity

-- before any message
abbrev pub empty_book : Book
empty_book = record { second = None; orders = map.empty; statuses = map.empty }

-- ---- Changes of an order
-- so many shares fewer, or none where it has no more than these
abbrev pub reduced_by : ℕ → Order → Order
reduced_by quantity order = record order { quantity = order.quantity - quantity }

-- so many shares are left
abbrev pub left_with : ℕ → Order → Order
left_with quantity order = record order { quantity = quantity }

-- quantity, price and display are replaced; side, symbol and participant stay
abbrev pub modified : ℕ → ℕ → Bool → Order → Order
modified quantity price display order =
    record order { quantity = quantity; price = price; display = display }

-- what a change makes of an order
abbrev pub changed_by : OrderChange → Order → Order
changed_by (Reduced quantity) = reduced_by quantity
changed_by (Left quantity) = left_with quantity
changed_by (Modified quantity price display) = modified quantity price display

-- ---- Effects on the book
-- the clock shows another second
abbrev pub at_second : Book → ℕ → Book
at_second book second = record book { second = Some second }

-- all orders go; the second and the statuses stay
abbrev pub cleared : Book → Book
cleared book = record book { orders = map.empty }

-- the order of an id goes
abbrev pub without_order : Book → ℕ → Book
without_order book id = record book { orders = map.remove book.orders id }

-- an order stands under an id, in place of one that stood there
abbrev pub with_order : Book → ℕ → Order → Book
with_order book id order = record book { orders = map.insert book.orders id order }

-- a symbol has this status from now on
abbrev pub with_status : Book → List ℕ → ℕ × ℕ → Book
with_status book symbol status = record book { statuses = map.insert book.statuses symbol status }

-- an order is added, unless it has no shares
abbrev pub added : Book → Order → Book
added book order = if order.quantity == 0 then book else with_order book order.id order

-- an open order takes another form, and goes where it has no shares left
abbrev pub reformed : Book → ℕ → Option Order → Book
reformed book id None = book
reformed book id (Some order) =
    if order.quantity == 0 then without_order book id else with_order book id order

-- the order of an id is changed; where none is open, nothing is
abbrev pub changed : Book → ℕ → (Order → Order) → Book
changed book id change = reformed book id (option_map change (map.get book.orders id))

-- what a message can do to a book: six things, or nothing
pub data Effect : Type 0 where
  ShowsSecond : (second : ℕ) → Effect
  ClearsOrders : Effect
  AddsOrder : (order : Order) → Effect
  ChangesOrder : (id : ℕ) → (change : OrderChange) → Effect
  RemovesOrder : (id : ℕ) → Effect
  GivesStatus : (symbol : List ℕ) → (status : ℕ × ℕ) → Effect
  DoesNothing : Effect

-- what an effect makes of a book
abbrev pub after_effect : Book → Effect → Book
after_effect book (ShowsSecond second) = at_second book second
after_effect book ClearsOrders = cleared book
after_effect book (AddsOrder order) = added book order
after_effect book (ChangesOrder id change) = changed book id (changed_by change)
after_effect book (RemovesOrder id) = without_order book id
after_effect book (GivesStatus symbol status) = with_status book symbol status
after_effect book DoesNothing = book

-- ---- What messages do
-- bit 0 of the flags says that an order is displayed
abbrev pub is_displayed : ℕ → Bool
is_displayed flags = bit_and flags 1 == 1

-- a symbol of six bytes gets two spaces at its end
abbrev pub long_symbol : List ℕ → List ℕ
long_symbol symbol = symbol ++ 32 ∷ 32 ∷ []

-- a short price counts hundredths, and a long one ten-thousandths
abbrev pub long_price : ℕ → ℕ
long_price price = 100 * price

-- the orders of the three forms of an add
abbrev pub order_of_long : ℕ → Side → ℕ → List ℕ → ℕ → ℕ → Order
order_of_long id side quantity symbol price flags =
    record {
      id = id;
      side = side;
      quantity = quantity;
      symbol = long_symbol symbol;
      price = price;
      display = is_displayed flags;
      participant = no_participant;
    }

abbrev pub order_of_short : ℕ → Side → ℕ → List ℕ → ℕ → ℕ → Order
order_of_short id side quantity symbol price flags =
    order_of_long id side quantity symbol (long_price price) flags

abbrev pub order_of_expanded : ℕ → Side → ℕ → List ℕ → ℕ → ℕ → List ℕ → Order
order_of_expanded id side quantity symbol price flags participant =
    record {
      id = id;
      side = side;
      quantity = quantity;
      symbol = symbol;
      price = price;
      display = is_displayed flags;
      participant = participant;
    }

-- what each message does
abbrev pub effect_of : Message → Effect
-- "Time Message"
effect_of (messages.Time second) = ShowsSecond second
-- "Unit Clear Message"
effect_of (messages.UnitClear offset) = ClearsOrders
-- "Trading Status Message"
effect_of (messages.TradingStatus offset symbol halt sho) = GivesStatus symbol (halt, sho)
-- "Add Order Message", long, short and expanded form
effect_of (messages.AddLong offset id side quantity symbol price flags) =
    AddsOrder (order_of_long id side quantity symbol price flags)
effect_of (messages.AddShort offset id side quantity symbol price flags) =
    AddsOrder (order_of_short id side quantity symbol price flags)
effect_of (messages.AddExpanded offset id side quantity symbol price flags participant) =
    AddsOrder (order_of_expanded id side quantity symbol price flags participant)
-- "Order Executed Message"
effect_of (messages.Executed offset id executed execution) = ChangesOrder id (Reduced executed)
-- "Order Executed at Price/Size Message"
effect_of (messages.ExecutedAt offset id executed remaining execution price) =
    ChangesOrder id (Left remaining)
-- "Reduce Size Message", long and short form
effect_of (messages.ReduceLong offset id quantity) = ChangesOrder id (Reduced quantity)
effect_of (messages.ReduceShort offset id quantity) = ChangesOrder id (Reduced quantity)
-- "Modify Order Message", long and short form
effect_of (messages.ModifyLong offset id quantity price flags) =
    ChangesOrder id (Modified quantity price (is_displayed flags))
effect_of (messages.ModifyShort offset id quantity price flags) =
    ChangesOrder id (Modified quantity (long_price price) (is_displayed flags))
-- "Delete Order Message"
effect_of (messages.Delete offset id) = RemovesOrder id
-- trades, trade breaks, the end of the session and types that are not known do nothing
effect_of other = DoesNothing

-- what a message does to a book
abbrev pub after_message : Book → Message → Book
after_message book message = after_effect book (effect_of message)

-- a message of a known type that is too short, or that names no side, does nothing
abbrev pub after_read : Book → Result Message ReadError → Book
after_read book (Ok message) = after_message book message
after_read book (Err error) = book

-- what a raw message does to a book
unfoldable pub after : Book → List ℕ → Book
after book raw = after_read book (reads raw)

-- the book that raw messages leave, one after another
abbrev pub book_after : List (List ℕ) → Book
book_after raws = fold after empty_book raws
