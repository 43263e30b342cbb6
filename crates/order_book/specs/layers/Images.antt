-- The parts of a book's image, as messages.
use Rattle.std.specs.Prelude.{ℕ, List, map}
use Rattle.pitch_messages.specs.Forms.{add_message, status_message}
use Rattle.pitch_messages.specs.Writing.{written}
use Rattle.pitch_messages.specs.declared.order.Order.{Order}
use Rattle.pitch_messages.specs.declared.trading_state.TradingState.{TradingState}
use Rattle.pitch_model.specs.layers.Widths.{FitsStatus}

-- the adds of some orders
abbrev pub adds_of : List Order → List (List ℕ)
adds_of orders = map written (map (λ (order : Order). add_message order 0) orders)

-- the messages of some trading statuses
abbrev pub raws_of : List TradingState → List (List ℕ)
raws_of states = map written (map (λ (state : TradingState). status_message state 0) states)

-- the fields of a trading status have the widths of the wire
abbrev pub FitsState : TradingState → Type 0
FitsState state = FitsStatus state.symbol (state.halt, state.sho)
