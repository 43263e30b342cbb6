-- What the relays of all units stand for, once some blocks were heard. Blocks stand newest first.
use Rattle.std.specs.Prelude.{◌≡◌, ℕ, List, Option, Some, None}
use Rattle.unit_packets.specs.Blocks.{Block}
use Rattle.pitch_model.specs.History.{Entry}
use Rattle.unit_clients.specs.Tables.{UnitTable, AtEach}
use Rattle.relay_unit.specs.Hearing.{first_heard, relay_history}
use Rattle.relay_unit.specs.Sparing.{HasHeard, messages_heard}
use Rattle.relay_unit.specs.Stands.{Stands, relay_unit_of}
use Rattle.relay_unit.specs.declared.relay.Relay.{Relay}

-- the relays of all units
abbrev pub Relays : Type 0
Relays = UnitTable Relay

-- the relay sends under this unit, and is where the history brings one
abbrev pub StandsFor : Relay → ℕ → ℕ → List Entry → Type 0
StandsFor relay H unit E = (relay_unit_of relay ≡ unit) × Stands relay H E

-- there is a relay, and it stands for this history, with so many messages
abbrev pub StandsAt : ℕ → ℕ → List Entry → ℕ → Option Relay → Type 0
StandsAt H unit E count None = ⊥
StandsAt H unit E count (Some relay) = StandsFor relay H unit E × HasHeard relay count

-- a unit's relay is where the unit's blocks bring it; where there is none, no block named the unit
abbrev pub IsRelay : ℕ → List Block → ℕ → Option Relay → Type 0
IsRelay H before unit None = relay_history H unit before ≡ first_heard
IsRelay H before unit (Some relay) =
    StandsFor relay H unit (relay_history H unit before)
    × HasHeard relay (messages_heard unit before)

-- each unit's relay heard its blocks
abbrev pub HaveRelayed : Relays → List Block → Type 0
HaveRelayed r before = AtEach (IsRelay r.limit before) r.places
