-- What `relay` writes: for each block the datagrams of what it added, under the relay's own
-- sequences from 1.
use Rattle.std.specs.Prelude.{ℕ, List, []}
use Rattle.std.specs.List.{concat}
use Rattle.unit_packets.specs.Blocks.{Block}
use Rattle.pitch_model.specs.History.{Entry, Raw}
use Rattle.client_core.specs.Venues.{IsVenue}
use Rattle.feed_lines.specs.Texts.{texts_after}
use Rattle.relay_unit.specs.Hearing.{relay_heard, relay_history}
use Rattle.relay_unit.specs.Relayed.{relayed_count, relayed_datagrams}

-- `Vs` gives the messages of each unit's venue, and the blocks speak of no others
abbrev pub AreRelayVenues : ℕ → (ℕ → List Raw) → List Block → Type 0
AreRelayVenues H Vs before = (unit : ℕ) → IsVenue (Vs unit) (relay_history H unit before)

-- the datagrams of a block that comes after others, where V are the messages of its unit's venue
abbrev pub datagrams_after : ℕ → List Raw → List Block → Block → List (List ℕ)
datagrams_after H V before block =
    let E : List Entry = relay_history H block.unit before in
    relayed_datagrams H V block.unit E (relay_heard H block E)

-- the same, joined
abbrev pub relayed_after : ℕ → List Raw → List Block → Block → List ℕ
relayed_after H V before block = concat (datagrams_after H V before block)

-- the whole text for some blocks, the oldest first
abbrev pub relay_text : ℕ → (ℕ → List Raw) → List Block → List ℕ
relay_text H Vs blocks =
    texts_after (λ before block. relayed_after H (Vs block.unit) before block) [] blocks

-- how many messages a unit's relay sends up to some blocks
abbrev pub sent_up_to : ℕ → List Raw → ℕ → List Block → ℕ
sent_up_to H V unit before = relayed_count H V (relay_history H unit before)
