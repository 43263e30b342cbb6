-- Which form of a message the venue writes, where the feed has more than one. The choice is this
-- project's own: the expanded form where the fields ask for it, else the short form where they fit,
-- else the long form.
use Rattle.std.specs.Prelude.{ℕ, Bool, nat_le, List, Option, None, Some, if◌then◌else◌}
use Rattle.pitch_fields.specs.Name.{is_blank, six_of}
use Rattle.pitch_fields.specs.Price.{short_of}
use Rattle.pitch_messages.specs.declared.order.Order.{Order}
use Rattle.pitch_messages.specs.declared.trading_state.TradingState.{TradingState}
use Rattle.pitch_messages.specs.declared.message.Message.{Message}
use Rattle.pitch_messages.specs.declared.message.Message.TheVariants as messages

-- the flags of an order: bit 0 says that it is displayed
abbrev pub flags_of : Bool → ℕ
flags_of display = if display then 1 else 0

-- the price in cents, where the quantity and the price both fit a short form
abbrev pub short_price : ℕ → ℕ → Option ℕ
short_price quantity price = if nat_le quantity 65535 then short_of price else None

-- the six bytes of the symbol, where neither the symbol nor the participant asks for the expanded
-- form
abbrev pub plain_symbol : Order → Option (List ℕ)
plain_symbol order = if is_blank order.participant then six_of order.symbol else None

abbrev pub add_in_form : Option (List ℕ) → Option ℕ → Order → ℕ → Message
add_in_form None cents order offset =
    messages.AddExpanded offset order.id order.side order.quantity order.symbol order.price
    (flags_of order.display) order.participant
add_in_form (Some six) (Some cents) order offset =
    messages.AddShort offset order.id order.side order.quantity six cents (flags_of order.display)
add_in_form (Some six) None order offset =
    messages.AddLong offset order.id order.side order.quantity six order.price
    (flags_of order.display)

-- the add of an order
unfoldable pub add_message : Order → ℕ → Message
add_message order offset =
    add_in_form (plain_symbol order) (short_price order.quantity order.price) order offset

abbrev pub trade_in_form : Option (List ℕ) → Option ℕ → Order → ℕ → ℕ → Message
trade_in_form None cents order execution offset =
    messages.TradeExpanded offset order.id order.side order.quantity order.symbol order.price
    execution
trade_in_form (Some six) (Some cents) order execution offset =
    messages.TradeShort offset order.id order.side order.quantity six cents execution
trade_in_form (Some six) None order execution offset =
    messages.TradeLong offset order.id order.side order.quantity six order.price execution

-- the trade of an order that is not shown in the book; it names no participant
unfoldable pub trade_message : Order → ℕ → ℕ → Message
trade_message order execution offset =
    trade_in_form (six_of order.symbol)
    (short_price order.quantity order.price) order execution offset

-- the reduction of an order by a quantity
unfoldable pub reduce_message : ℕ → ℕ → ℕ → Message
reduce_message id quantity offset =
    if nat_le quantity 65535 then messages.ReduceShort offset id quantity
    else messages.ReduceLong offset id quantity

abbrev pub modify_in_form : Option ℕ → ℕ → ℕ → ℕ → Bool → ℕ → Message
modify_in_form (Some cents) id quantity price display offset =
    messages.ModifyShort offset id quantity cents (flags_of display)
modify_in_form None id quantity price display offset =
    messages.ModifyLong offset id quantity price (flags_of display)

-- the modification of an order to a quantity, a price and a display mark
unfoldable pub modify_message : ℕ → ℕ → ℕ → Bool → ℕ → Message
modify_message id quantity price display offset =
    modify_in_form (short_price quantity price) id quantity price display offset

-- the trading status of a symbol; it has one form
abbrev pub status_message : TradingState → ℕ → Message
status_message state offset = messages.TradingStatus offset state.symbol state.halt state.sho
