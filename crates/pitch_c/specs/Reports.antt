-- What the structs that C reads say. Each ends with room for fields to come, which is 0.
use Rattle.std.specs.Prelude.{ℕ, replicate, Option, None, Some, if◌then◌else◌}
use Rattle.pitch_fields.specs.Side.{byte_of}
use Rattle.pitch_messages.specs.declared.order.Order.{Order}
use Rattle.pitch_messages.specs.declared.trading_state.TradingState.{TradingState}
use Rattle.pitch_model.specs.declared.status.Status.{Status}
use Rattle.pitch_model.specs.declared.status.Status.TheVariants.{Silent, Current, Behind}
use Rattle.heard_items.specs.declared.change.Change.{Change}
use Rattle.unit_packets.specs.declared.header.Header.{Header}
use Rattle.best_quotes.specs.declared.quote.QuoteLine.{QuoteLine}
use Rattle.pitch_c.specs.declared.reports.StatusOut.{StatusOut}
use Rattle.pitch_c.specs.declared.reports.BestOut.{BestOut}
use Rattle.pitch_c.specs.declared.reports.HeardOut.{HeardOut}
use Rattle.pitch_c.specs.declared.reports.StateOut.{StateOut}
use Rattle.pitch_c.specs.declared.reports.OrderOut.{OrderOut}
use Rattle.pitch_c.specs.declared.reports.LevelOut.{LevelOut}
use Rattle.pitch_c.specs.declared.reports.QuoteOut.{QuoteOut}

-- how far a client is
abbrev pub status_shown : Status → StatusOut
status_shown Silent = record { state = 1; reach = 0; top = 0; spare = replicate 5 0 }
status_shown (Current n) = record { state = 2; reach = n; top = n; spare = replicate 5 0 }
status_shown (Behind n top) = record { state = 3; reach = n; top = top; spare = replicate 5 0 }

-- a best price with its shares, where there is one
abbrev pub best_shown : Option (ℕ × ℕ) → BestOut
best_shown None = record { there = 0; price = 0; shares = 0; spare = replicate 5 0 }
best_shown (Some best) =
    record { there = 1; price = best.0; shares = best.1; spare = replicate 5 0 }

-- a price with its shares
abbrev pub level_shown : ℕ × ℕ → LevelOut
level_shown level = record { price = level.0; shares = level.1; spare = replicate 2 0 }

-- what a message changed: the best price of a symbol on a side then, with its shares, where the
-- side has an order
abbrev pub quote_shown : QuoteLine → QuoteOut
quote_shown line = record {
  sequence = line.sequence;
  side = byte_of line.quote.side;
  symbol = line.quote.symbol;
  there = (best_shown line.quote.best).there;
  price = (best_shown line.quote.best).price;
  shares = (best_shown line.quote.best).shares;
  spare = replicate 3 0;
}

-- an open order, where there is one
abbrev pub order_shown : Option Order → OrderOut
order_shown None = record {
  there = 0;
  id = 0;
  price = 0;
  quantity = 0;
  side = 0;
  symbol = replicate 8 32;
  display = 0;
  participant = replicate 4 32;
  spare = replicate 2 0;
}
order_shown (Some order) = record {
  there = 1;
  id = order.id;
  price = order.price;
  quantity = order.quantity;
  side = byte_of order.side;
  symbol = order.symbol;
  display = if order.display then 1 else 0;
  participant = order.participant;
  spare = replicate 2 0;
}

-- the trading status of a symbol
abbrev pub state_shown : TradingState → StateOut
state_shown state =
    record { symbol = state.symbol; halt = state.halt; sho = state.sho; spare = replicate 2 0 }

-- the header of a block that was heard, and what it changed
abbrev pub heard_shown : Header → Change → HeardOut
heard_shown header change = record {
  used = header.length;
  unit = header.unit;
  sequence = header.sequence;
  count = header.count;
  fresh = change.fresh;
  overflows = change.overflows;
  after = status_shown change.after;
  spare = replicate 2 0;
}
