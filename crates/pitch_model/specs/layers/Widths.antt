-- Orders and trading statuses whose fields have the widths of the wire.
use Rattle.std.specs.Prelude.{◌≡◌, ℕ, ◌<◌, ◌^◌, List, length, Some}
use Rattle.std.specs.FinMap as map
use Rattle.pitch_fields.specs.Fields.{AreBytes}
use Rattle.pitch_messages.specs.declared.order.Order.{Order}
use Rattle.pitch_model.specs.Book.{Book}

-- an id and a price of eight bytes, a quantity of four, a symbol of eight bytes and a participant
-- of four
pub record FitsWire (order : Order) : Type 0 where
  pub id : order.id < 256 ^ 8
  pub quantity : order.quantity < 256 ^ 4
  pub symbol : length order.symbol ≡ 8
  pub price : order.price < 256 ^ 8
  pub participant : length order.participant ≡ 4
  pub symbol_bytes : AreBytes order.symbol
  pub participant_bytes : AreBytes order.participant

-- a symbol of eight bytes, and a byte each for halt and sho
pub record FitsStatus (key : List ℕ) (status : ℕ × ℕ) : Type 0 where
  pub symbol : length key ≡ 8
  pub symbol_bytes : AreBytes key
  pub halt : status.0 < 256
  pub sho : status.1 < 256

-- a second of four bytes, where one is known, and open orders and statuses of these widths
pub record IsWireBook (book : Book) : Type 0 where
  pub clock : (second : ℕ) → book.second ≡ Some second → second < 256 ^ 4
  pub orders : (id : ℕ) (order : Order) → map.get book.orders id ≡ Some order → FitsWire order
  pub statuses : (symbol : List ℕ) (status : ℕ × ℕ)
      → map.get book.statuses symbol ≡ Some status → FitsStatus symbol status
