-- What the relay in a place promises of a block that it hears, where some blocks were heard before.
-- No public clause needs this file.
use Rattle.std.specs.Prelude.{◌≡◌, ◌+◌, ◌++◌, ℕ, List, Option, length}
use Rattle.std.specs.List.{concat}
use Rattle.unit_packets.specs.Blocks.{Block}
use Rattle.pitch_model.specs.History.{Entry, Raw}
use Rattle.heard_items.specs.declared.change.Change.{Change}
use Rattle.relay_unit.specs.layers.Changing.{merged_change}
use Rattle.relay_unit.specs.Hearing.{relay_heard, relay_history}
use Rattle.client_core.specs.Venues.{IsVenue}
use Rattle.relay_unit.specs.Relayed.{relayed_count, relayed_datagrams}
use Rattle.relay_unit.specs.Relays.{StandsAt, IsRelay}
use Rattle.relay_unit.specs.Sparing.{IsSpentBy, messages_heard}
use Rattle.relay_unit.specs.Stands.{IsOutrun}
use Rattle.relay_unit.specs.declared.relay.Relay.{Relay}
use Rattle.relay_unit.specs.declared.relay.RelayError.{RelayError}

-- the history of a block's unit before it, and with it
abbrev pub history_before : ℕ → List Block → Block → List Entry
history_before H before block = relay_history H block.unit before

abbrev pub history_with : ℕ → List Block → Block → List Entry
history_with H before block = relay_heard H block (history_before H before block)

-- how many messages the unit's blocks have with this one
abbrev pub count_with : List Block → Block → ℕ
count_with before block = messages_heard block.unit before + length block.raws

abbrev pub StandsThere : ℕ → (place place' : Option Relay) → Block → Type 0
StandsThere H place place' block =
    (before : List Block) → IsRelay H before block.unit place
    → StandsAt H block.unit (history_with H before block) (count_with before block) place'

abbrev pub AppendsThere : ℕ → Option Relay → Block → (out out' : List ℕ) → Type 0
AppendsThere H place block out out' =
    (before : List Block) (V : List Raw) → IsRelay H before block.unit place
    → IsVenue V (history_with H before block)
    → out' ≡ out ++ concat (relayed_datagrams H V block.unit (history_before H before block)
    (history_with H before block))

abbrev pub ChangesThere : ℕ → Option Relay → Block → Change → Type 0
ChangesThere H place block change =
    (before : List Block) → IsRelay H before block.unit place
    → change ≡ merged_change H (history_before H before block) block

abbrev pub OutrunsThere : ℕ → Option Relay → Block → RelayError → Type 0
OutrunsThere H place block error =
    (before : List Block) (V : List Raw) → IsRelay H before block.unit place
    → IsVenue V (history_with H before block)
    → IsOutrun error (relayed_count H V (history_before H before block))
    (relayed_count H V (history_with H before block))

abbrev pub SpentThere : ℕ → Option Relay → Block → RelayError → Type 0
SpentThere H place block error =
    (before : List Block) → IsRelay H before block.unit place
    → IsSpentBy (count_with before block) error
