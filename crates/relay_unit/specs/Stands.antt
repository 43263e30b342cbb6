-- What a relay stands for.
use Rattle.std.specs.Prelude.{◌≡◌, ℕ, ◌+◌, ◌<◌, ◌≤◌, List, Some, None}
use Rattle.pitch_fields.specs.Limits.{last_sequence}
use Rattle.pitch_model.specs.Book.{Book}
use Rattle.pitch_model.specs.History.{Entry, Raw}
use Rattle.client_core.specs.Tracks.{Tracks, Keeps}
use Rattle.client_core.specs.Client.{current_book}
use Rattle.relay_unit.specs.Relayed.{relayed_count}
use Rattle.client_core.specs.Venues.{IsVenue}
use Rattle.relay_unit.specs.declared.relay.Relay.{Relay}
use Rattle.relay_unit.specs.declared.relay.RelayError.{RelayError}
use Rattle.relay_unit.specs.declared.relay.RelayError.TheVariants.{SequencesSpent, OutOfMemory}

-- the unit under which it sends
abbrev pub relay_unit_of : Relay → ℕ
relay_unit_of relay = relay.unit

-- the book that it follows
abbrev pub followed_book : Relay → Book
followed_book relay = current_book relay.client

-- it goes on
abbrev pub GoesOn : Relay → Type 0
GoesOn relay = relay.spent ≡ None

-- it gives this answer to each block from now on
abbrev pub IsSpent : Relay → RelayError → Type 0
IsSpent relay error = relay.spent ≡ Some error

-- the relay is where the history E brings one whose hold has H places: of any venue of which E
-- speaks, it keeps the messages, and has sent all that is relayed up to E
pub record Stands (relay : Relay) (H : ℕ) (E : List Entry) : Type 0 where
  pub tracks : Tracks relay.client H E
  pub keeps : (V : List Raw) → IsVenue V E → Keeps relay.client V
  pub sent_is : (V : List Raw) → IsVenue V E → relay.sent ≡ relayed_count H V E
  pub within : relay.sent ≤ last_sequence
  pub goes_on : GoesOn relay

-- the error says that what is sent up to E and what comes up to E' has no sequences any more
abbrev pub IsOutrun : RelayError → (count count' : ℕ) → Type 0
IsOutrun (SequencesSpent sent more) count count' =
    (sent ≡ count) × (sent + more ≡ count') × (last_sequence < count')
IsOutrun OutOfMemory count count' = Unit {0}
