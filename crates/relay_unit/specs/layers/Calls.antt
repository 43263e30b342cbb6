-- What a call of a relay, and of the relays of a stream, promises of a block that it hears.
use Rattle.std.specs.Prelude.{◌≡◌, ◌+◌, ◌++◌, ℕ, List, ◌∷◌, length}
use Rattle.unit_packets.specs.Blocks.{Block}
use Rattle.pitch_model.specs.History.{Entry, Raw}
use Rattle.heard_items.specs.declared.change.Change.{Change}
use Rattle.relay_unit.specs.layers.Changing.{merged_change}
use Rattle.relay_unit.specs.Following.{HasSent, SendsMore, CountsBoth}
use Rattle.relay_unit.specs.Hearing.{relay_heard, relay_history}
use Rattle.client_core.specs.Venues.{IsVenue}
use Rattle.relay_unit.specs.RelayText.{relayed_after, sent_up_to}
use Rattle.relay_unit.specs.Relayed.{relayed_count, relayed_datagrams}
use Rattle.relay_unit.specs.Relays.{Relays, HaveRelayed}
use Rattle.relay_unit.specs.Sparing.{HasHeard, IsSpentBy, messages_heard}
use Rattle.relay_unit.specs.Stands.{Stands, IsOutrun, GoesOn, relay_unit_of}
use Rattle.relay_unit.specs.declared.relay.Relay.{Relay}
use Rattle.relay_unit.specs.declared.relay.RelayError.{RelayError}

-- ---- Of a relay
-- whatever history it stood for, it stands for that history and the block
abbrev pub StandsAfter : Relay → Relay → Block → Type 0
StandsAfter r r' block =
    (H : ℕ) (E : List Entry) → Stands r H E → Stands r' H (relay_heard H block E)

-- of any venue of which that history speaks, what is appended are the datagrams of what the block
-- adds to what is relayed
abbrev pub AppendsRelayed : Relay → Block → (List (List ℕ) → Type 0) → Type 0
AppendsRelayed r block Lays =
    (V : List Raw) (H : ℕ) (E : List Entry) → Stands r H E → IsVenue V (relay_heard H block E)
    → Lays (relayed_datagrams H V (relay_unit_of r) E (relay_heard H block E))

-- of any such venue, the error says that what is relayed then outruns the last sequence
abbrev pub OutrunsAfter : Relay → Block → RelayError → Type 0
OutrunsAfter r block error =
    (V : List Raw) (H : ℕ) (E : List Entry) → Stands r H E → IsVenue V (relay_heard H block E)
    → IsOutrun error (relayed_count H V E) (relayed_count H V (relay_heard H block E))

-- this is what the block changes
abbrev pub IsChangeAfter : Relay → Block → Change → Type 0
IsChangeAfter r block change =
    (H : ℕ) (E : List Entry) → Stands r H E → change ≡ merged_change H E block

-- whatever was heard, it sends no more messages than it heard with those of the block
abbrev pub HearsFew : Relay → Relay → Block → Type 0
HearsFew r r' block =
    (count : ℕ) → HasHeard r count → HasHeard r' (count + length block.raws)

-- and its sequences are spent only where these are more than there are sequences
abbrev pub SpendsFew : Relay → Block → RelayError → Type 0
SpendsFew r block error =
    (count : ℕ) → HasHeard r count → IsSpentBy (count + length block.raws) error

-- whatever was heard by a relay that went on, the error counts the messages that it had sent and
-- those of the block
abbrev pub CountsAny : Relay → Relay → Block → RelayError → Type 0
CountsAny r r' block error =
    GoesOn r → (before : List Raw) → HasSent r before → CountsBoth r r' block before error

-- whatever was heard, what is appended are messages behind all that it had sent
abbrev pub AppendsAny : Relay → Relay → Block → (List (List ℕ) → Type 0) → Type 0
AppendsAny r r' block Lays =
    (sent : List Raw) → HasSent r sent
    → (datagrams : List (List ℕ)) × Lays datagrams × SendsMore r r' block sent datagrams

-- ---- Of the relays of a stream, the same, where these blocks were heard
abbrev pub HaveRelayedAfter : Relays → Relays → Block → Type 0
HaveRelayedAfter r r' block =
    (before : List Block) → HaveRelayed r before → HaveRelayed r' (block ∷ before)

-- of each venue of which the blocks of this one's unit up to it speak
abbrev pub AppendVenues : Relays → Block → (out out' : List ℕ) → Type 0
AppendVenues r block out out' =
    (before : List Block) (V : List Raw) → HaveRelayed r before
    → IsVenue V (relay_history r.limit block.unit (block ∷ before))
    → out' ≡ out ++ relayed_after r.limit V before block

abbrev pub AreChanged : Relays → Block → Change → Type 0
AreChanged r block change =
    (before : List Block) → HaveRelayed r before
    → change ≡ merged_change r.limit (relay_history r.limit block.unit before) block

abbrev pub OutrunVenues : Relays → Block → RelayError → Type 0
OutrunVenues r block error =
    (before : List Block) (V : List Raw) → HaveRelayed r before
    → IsVenue V (relay_history r.limit block.unit (block ∷ before))
    → IsOutrun error (sent_up_to r.limit V block.unit before)
    (sent_up_to r.limit V block.unit (block ∷ before))

abbrev pub SpendFew : Relays → Block → RelayError → Type 0
SpendFew r block error =
    (before : List Block) → HaveRelayed r before
    → IsSpentBy (messages_heard block.unit (block ∷ before)) error
