-- What hearing a block does to a leveled unit, to the other units, and to the lines.
use Rattle.std.specs.Prelude.{◌≡◌, ◌<◌, ◌⊎◌, ℕ, List, [], ◌∷◌}
use Rattle.unit_packets.specs.Blocks.{Block}
use Rattle.pitch_model.specs.History.{Entry, Raw}
use Rattle.pitch_model.specs.Honest.{Honest}
use Rattle.pitch_model.specs.Reach.{reach}
use Rattle.heard_items.specs.HeardBlocks.{heard_block}
use Rattle.heard_items.specs.Units.{unit_history}
use Rattle.unit_clients.specs.Clients.{Units, HaveHeard, client_of}
use Rattle.unit_clients.specs.Room.{HaveSpare}
use Rattle.client_core.specs.Tracks.{Tracks, Keeps}
use Rattle.order_book.specs.Turns.{turns_of}
use Rattle.order_book.specs.declared.turn.Turn.{Turn}
use Rattle.client_core.specs.Client.{current_book, Applied}
use Rattle.client_core.specs.declared.client.UnitClient.{UnitClient}
use Rattle.best_quotes.specs.Quoting.{quotes_of_block}
use Rattle.best_quotes.specs.declared.quote.QuoteLine.{QuoteLine}

-- a client applied messages that did all this to its orders
abbrev pub TurnsBook : UnitClient → UnitClient → List Turn → Type 0
TurnsBook old new turns =
    (raws : List Raw) × (turns ≡ turns_of (current_book old) raws) × Applied old new raws

-- of any venue to which a client keeps, the lines are those of the block
abbrev pub TellsAnew : UnitClient → List QuoteLine → Block → Type 0
TellsAnew client lines block =
    (Image : List Raw → ℕ → List Raw) (V : List Raw) (H : ℕ) (E : List Entry)
    → Tracks client H E → Honest Image V (heard_block block E) → Keeps client V
    → lines ≡ quotes_of_block H V E block

-- the clients of the other units stay, with what they have to spare
abbrev pub OthersStay : Units → Units → ℕ → Type 0
OthersStay old new unit =
    (other : ℕ) → (other ≡ unit → ⊥) → client_of new other ≡ client_of old other

-- each unit can apply as many messages without memory as before
abbrev pub KeepSpare : Units → Units → Type 0
KeepSpare old new =
    (unit messages : ℕ) → HaveSpare old unit messages → HaveSpare new unit messages

-- a block has no messages that a client could apply
abbrev pub IsIdle : Block → Type 0
IsIdle block = (block.raws ≡ []) ⊎ (block.sequence ≡ 0)

-- a block takes the reach of a history on
abbrev pub Advances : ℕ → List Entry → Block → Type 0
Advances H E block = reach H E < reach H (heard_block block E)

-- of whatever blocks the clients of a stream heard, and of any venue of whose messages alone those
-- of the next one's unit and it speak, the lines are those of the next
abbrev pub TellBlock : Units → List QuoteLine → Block → Type 0
TellBlock units lines block =
    (before : List Block) (Image : List Raw → ℕ → List Raw) (V : List Raw)
    → HaveHeard units before → Honest Image V (unit_history block.unit (block ∷ before))
    → lines ≡ quotes_of_block units.limit V (unit_history block.unit before) block
