-- The bytes of a message, by its row.
use Rattle.std.specs.Prelude.{ℕ, List}
use Rattle.pitch_messages.specs.Fields.{Makes, Values, given}
use Rattle.pitch_messages.specs.Table.{row_bytes}
use Rattle.pitch_messages.specs.Reading.{MessageRow}
use Rattle.pitch_messages.specs.Reading as rows
use Rattle.pitch_messages.specs.declared.message.Message.{Message}
use Rattle.pitch_messages.specs.declared.message.Message.TheVariants as messages

-- a message in its row: what each field says; or a raw whose type is in no row
pub data InRow : Type 0 where
  Known : (row : MessageRow) → Values row.fields → InRow
  Unknown : List ℕ → InRow

-- a message in a row, whose fields say these values, one after another
abbrev known : (row : MessageRow) → Makes row.fields InRow
known row = given row.fields (λ values. Known row values)

-- the row of a message, and what its fields say
abbrev pub in_row : Message → InRow
in_row (messages.Time second) = known rows.time_row second
in_row (messages.AddLong offset id side quantity symbol price flags) =
    known rows.add_long_row offset id side quantity symbol price flags
in_row (messages.AddShort offset id side quantity symbol price flags) =
    known rows.add_short_row offset id side quantity symbol price flags
in_row (messages.Executed offset id executed execution) =
    known rows.executed_row offset id executed execution
in_row (messages.ExecutedAt offset id executed remaining execution price) =
    known rows.executed_at_row offset id executed remaining execution price
in_row (messages.ReduceLong offset id quantity) = known rows.reduce_long_row offset id quantity
in_row (messages.ReduceShort offset id quantity) = known rows.reduce_short_row offset id quantity
in_row (messages.ModifyLong offset id quantity price flags) =
    known rows.modify_long_row offset id quantity price flags
in_row (messages.ModifyShort offset id quantity price flags) =
    known rows.modify_short_row offset id quantity price flags
in_row (messages.Delete offset id) = known rows.delete_row offset id
in_row (messages.TradeLong offset id side quantity symbol price execution) =
    known rows.trade_long_row offset id side quantity symbol price execution
in_row (messages.TradeShort offset id side quantity symbol price execution) =
    known rows.trade_short_row offset id side quantity symbol price execution
in_row (messages.TradeBreak offset execution) = known rows.trade_break_row offset execution
in_row (messages.EndOfSession offset) = known rows.end_of_session_row offset
in_row (messages.AddExpanded offset id side quantity symbol price flags participant) =
    known rows.add_expanded_row offset id side quantity symbol price flags participant
in_row (messages.TradeExpanded offset id side quantity symbol price execution) =
    known rows.trade_expanded_row offset id side quantity symbol price execution
in_row (messages.TradingStatus offset symbol halt sho) =
    known rows.trading_status_row offset symbol halt sho tt
in_row (messages.UnitClear offset) = known rows.unit_clear_row offset
in_row (messages.Other raw) = Unknown raw

-- its length, its type and its fields, end to end
abbrev pub bytes_in : InRow → List ℕ
bytes_in (Known row values) = row_bytes row values
bytes_in (Unknown raw) = raw

-- the bytes of a message
unfoldable pub written : Message → List ℕ
written message = bytes_in (in_row message)
