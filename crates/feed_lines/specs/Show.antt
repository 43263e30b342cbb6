-- What `show` writes for the blocks of a stream: a line for each block, and one for each of its
-- messages.
use Rattle.std.specs.Prelude.{ℕ, ◌+◌, ◌==◌, List, [], ◌∷◌, ◌++◌, length, Result, Ok, Err, codes}
use Rattle.std.specs.Prelude.{decimal, if◌then◌else◌}
use Rattle.std.specs.List.{concat}
use Rattle.pitch_fields.specs.Name.{hex_text, name_shown}
use Rattle.pitch_fields.specs.Price.{price_digits}
use Rattle.pitch_fields.specs.Side.{byte_of}
use Rattle.pitch_fields.specs.declared.side.Side.{Side}
use Rattle.pitch_messages.specs.Raw.{kind_of}
use Rattle.pitch_messages.specs.Reading.{extra_of, reads}
use Rattle.pitch_messages.specs.declared.message.Message.{Message}
use Rattle.pitch_messages.specs.declared.message.Message.TheVariants as messages
use Rattle.pitch_messages.specs.declared.message.ReadError.{ReadError}
use Rattle.pitch_messages.specs.declared.message.ReadError.TheVariants.{Short, BadSide}
use Rattle.unit_packets.specs.Blocks.{Block}
use Rattle.pitch_model.specs.Book.{long_price, long_symbol}
use Rattle.feed_lines.specs.Texts.{block_head, texts_after}

-- ---- Fields, each after its name
-- the word of a message, which has no name before it
unfoldable pub word : List ℕ → List ℕ
word letters = letters

-- a number
unfoldable pub number_field : List ℕ → ℕ → List ℕ
number_field name value = name ++ decimal value

-- a price
unfoldable pub price_field : List ℕ → ℕ → List ℕ
price_field name price = name ++ price_digits price

-- a byte in hexadecimal
unfoldable pub hex_field : List ℕ → ℕ → List ℕ
hex_field name byte = name ++ hex_text byte

-- bytes that are text; one byte is shown as a symbol of one byte is
unfoldable pub text_field : List ℕ → List ℕ → List ℕ
text_field name bytes = name ++ name_shown bytes

-- a side
unfoldable pub side_text : Side → List ℕ
side_text side = codes " side=" ++ byte_of side ∷ []

unfoldable pub offset_text : ℕ → List ℕ
offset_text offset = number_field (codes " offset=") offset

unfoldable pub id_text : ℕ → List ℕ
id_text id = number_field (codes " id=") id

unfoldable pub quantity_text : ℕ → List ℕ
quantity_text quantity = number_field (codes " quantity=") quantity

unfoldable pub symbol_text : List ℕ → List ℕ
symbol_text symbol = text_field (codes " symbol=") symbol

unfoldable pub price_text : ℕ → List ℕ
price_text price = price_field (codes " price=") price

unfoldable pub flags_text : ℕ → List ℕ
flags_text flags = hex_field (codes " flags=") flags

unfoldable pub execution_text : ℕ → List ℕ
execution_text execution = number_field (codes " execution=") execution

unfoldable pub kind_text : List ℕ → List ℕ
kind_text raw = hex_field (codes " kind=") (kind_of raw)

-- ---- Messages
-- the word of a message, and its fields in the order of the wire
unfoldable pub message_texts : Message → List (List ℕ)
message_texts (messages.Time second) = word (codes "time") ∷ number_field (codes " second=") second ∷ []
message_texts (messages.AddLong offset id side quantity symbol price flags) = word (codes "add-long")
    ∷ offset_text offset ∷ id_text id ∷ side_text side ∷ quantity_text quantity
    ∷ symbol_text (long_symbol symbol) ∷ price_text price ∷ flags_text flags ∷ []
message_texts (messages.AddShort offset id side quantity symbol price flags) = word (codes "add-short")
    ∷ offset_text offset ∷ id_text id ∷ side_text side ∷ quantity_text quantity
    ∷ symbol_text (long_symbol symbol) ∷ price_text (long_price price) ∷ flags_text flags ∷ []
message_texts (messages.Executed offset id executed execution) = word (codes "executed")
    ∷ offset_text offset ∷ id_text id ∷ number_field (codes " executed=") executed
    ∷ execution_text execution ∷ []
message_texts (messages.ExecutedAt offset id executed remaining execution price) =
    word (codes "executed-at") ∷ offset_text offset ∷ id_text id
    ∷ number_field (codes " executed=") executed ∷ number_field (codes " remaining=") remaining
    ∷ execution_text execution ∷ price_text price ∷ []
message_texts (messages.ReduceLong offset id quantity) =
    word (codes "reduce-long") ∷ offset_text offset ∷ id_text id ∷ quantity_text quantity ∷ []
message_texts (messages.ReduceShort offset id quantity) =
    word (codes "reduce-short") ∷ offset_text offset ∷ id_text id ∷ quantity_text quantity ∷ []
message_texts (messages.ModifyLong offset id quantity price flags) =
    word (codes "modify-long") ∷ offset_text offset ∷ id_text id ∷ quantity_text quantity
    ∷ price_text price ∷ flags_text flags ∷ []
message_texts (messages.ModifyShort offset id quantity price flags) =
    word (codes "modify-short") ∷ offset_text offset ∷ id_text id ∷ quantity_text quantity
    ∷ price_text (long_price price) ∷ flags_text flags ∷ []
message_texts (messages.Delete offset id) =
    word (codes "delete") ∷ offset_text offset ∷ id_text id ∷ []
message_texts (messages.TradeLong offset id side quantity symbol price execution) =
    word (codes "trade-long") ∷ offset_text offset ∷ id_text id ∷ side_text side ∷ quantity_text quantity
    ∷ symbol_text (long_symbol symbol) ∷ price_text price ∷ execution_text execution ∷ []
message_texts (messages.TradeShort offset id side quantity symbol price execution) =
    word (codes "trade-short") ∷ offset_text offset ∷ id_text id ∷ side_text side
    ∷ quantity_text quantity ∷ symbol_text (long_symbol symbol) ∷ price_text (long_price price)
    ∷ execution_text execution ∷ []
message_texts (messages.TradeBreak offset execution) =
    word (codes "trade-break") ∷ offset_text offset ∷ execution_text execution ∷ []
message_texts (messages.EndOfSession offset) = word (codes "end") ∷ offset_text offset ∷ []
message_texts (messages.AddExpanded offset id side quantity symbol price flags participant) =
    word (codes "add-expanded") ∷ offset_text offset ∷ id_text id ∷ side_text side
    ∷ quantity_text quantity ∷ symbol_text symbol ∷ price_text price ∷ flags_text flags
    ∷ text_field (codes " participant=") participant ∷ []
message_texts (messages.TradeExpanded offset id side quantity symbol price execution) =
    word (codes "trade-expanded") ∷ offset_text offset ∷ id_text id ∷ side_text side
    ∷ quantity_text quantity ∷ symbol_text symbol ∷ price_text price
    ∷ execution_text execution ∷ []
message_texts (messages.TradingStatus offset symbol halt sho) =
    word (codes "trading-status") ∷ offset_text offset ∷ symbol_text symbol
    ∷ text_field (codes " halt=") (halt ∷ []) ∷ text_field (codes " sho=") (sho ∷ []) ∷ []
message_texts (messages.UnitClear offset) = word (codes "unit-clear") ∷ offset_text offset ∷ []
message_texts (messages.Other raw) =
    word (codes "other") ∷ kind_text raw ∷ number_field (codes " length=") (length raw) ∷ []

-- a message, as it is shown
abbrev pub message_text : Message → List ℕ
message_text message = concat (message_texts message)

-- how many bytes a message of a known type has beyond those that its type needs, where it has any
unfoldable pub extra_texts : ℕ → List (List ℕ)
extra_texts extra = if extra == 0 then [] else number_field (codes " extra=") extra ∷ []

-- what a raw says, or why it says nothing: it is shorter than its type, or its side is none
unfoldable pub said_texts : List ℕ → Result Message ReadError → List (List ℕ)
said_texts raw (Ok message) = message_text message ∷ extra_texts (extra_of raw)
said_texts raw (Err (Short needs has)) = word (codes "short") ∷ kind_text raw
    ∷ number_field (codes " needs=") needs ∷ number_field (codes " has=") has ∷ []
said_texts raw (Err (BadSide byte)) =
    word (codes "bad-side") ∷ kind_text raw ∷ hex_field (codes " byte=") byte ∷ []

abbrev pub said_text : List ℕ → List ℕ
said_text raw = concat (said_texts raw (reads raw))

-- ---- Blocks
-- the sequence of a message; one of an unsequenced block has none
abbrev pub sequence_text : ℕ → List ℕ
sequence_text sequence = if sequence == 0 then codes "-" else decimal sequence

-- the line of a message
abbrev pub line_texts : ℕ → List ℕ → List (List ℕ)
line_texts sequence raw = sequence_text sequence ∷ codes " " ∷ said_text raw ∷ codes "\n" ∷ []

unfoldable pub message_line : ℕ → List ℕ → List ℕ
message_line sequence raw = concat (line_texts sequence raw)

-- the sequence after that of a message
abbrev pub next_after : ℕ → ℕ
next_after sequence = if sequence == 0 then 0 else sequence + 1

-- the lines of messages, the first of which has this sequence
unfoldable pub message_lines : ℕ → List (List ℕ) → List ℕ
message_lines sequence [] = []
message_lines sequence (raw ∷ raws) =
    message_line sequence raw ++ message_lines (next_after sequence) raws

-- the line of block number k
unfoldable pub shown_head : ℕ → ℕ → ℕ → ℕ → List ℕ
shown_head k unit first count = block_head k unit first count ++ 10 ∷ []

-- the lines of a block and its messages
abbrev pub shown_after : List Block → Block → List ℕ
shown_after before block =
    shown_head (length before + 1) block.unit block.sequence (length block.raws)
    ++ message_lines block.sequence block.raws

-- the whole text for some blocks, the oldest first
abbrev pub show_text : List Block → List ℕ
show_text blocks = texts_after shown_after [] blocks
