-- A relay sends no more messages than it heard, whatever they say.
use Rattle.std.specs.Prelude.{ℕ, ◌+◌, ◌<◌, ◌≤◌, ◌==◌, List, [], ◌∷◌, length, if◌then◌else◌}
use Rattle.pitch_fields.specs.Limits.{last_sequence}
use Rattle.unit_packets.specs.Blocks.{Block}
use Rattle.client_core.specs.Weight.{weight}
use Rattle.relay_unit.specs.Stands.{GoesOn}
use Rattle.relay_unit.specs.declared.relay.Relay.{Relay}
use Rattle.relay_unit.specs.declared.relay.RelayError.{RelayError}
use Rattle.relay_unit.specs.declared.relay.RelayError.TheVariants.{SequencesSpent, OutOfMemory}

-- how many messages the blocks of a unit have, those of lines and those of Spin Servers
abbrev pub messages_heard : ℕ → List Block → ℕ
messages_heard unit [] = 0
messages_heard unit (block ∷ before) =
    if block.unit == unit then messages_heard unit before + length block.raws
    else messages_heard unit before

-- it goes on, and what it sent and may still have to send of what it heard are no more messages
-- than so many
pub record HasHeard (relay : Relay) (count : ℕ) : Type 0 where
  pub goes_on : GoesOn relay
  pub sends_few : relay.sent + weight relay.client ≤ count

-- sequences are spent only where so many messages are more than there are sequences
abbrev pub IsSpentBy : ℕ → RelayError → Type 0
IsSpentBy count (SequencesSpent sent more) = last_sequence < count
IsSpentBy count OutOfMemory = Unit {0}
