-- The trading statuses of a book, one symbol after another.
use Rattle.std.specs.Prelude.{ℕ, List, map}
use Rattle.std.specs.FinMap as finite
use Rattle.pitch_messages.specs.declared.trading_state.TradingState.{TradingState}
use Rattle.pitch_model.specs.Book.{Book}

-- a symbol with its status
abbrev pub symbol_state : List ℕ × (ℕ × ℕ) → TradingState
symbol_state entry = record { symbol = entry.0; halt = entry.1.0; sho = entry.1.1 }

-- the statuses, by rising bytes of their symbols
abbrev pub statuses_of : Book → List TradingState
statuses_of book = map symbol_state (finite.entries book.statuses)
