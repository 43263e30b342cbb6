-- What the relays of all units send of any input, honest or not.
use Rattle.std.specs.Prelude.{◌≡◌, ◌≢◌, ◌+◌, ◌++◌, ◌==◌, ℕ, List, [], Option, Some, None}
use Rattle.std.specs.Prelude.{fold, length, slice_get, if◌then◌else◌}
use Rattle.std.specs.List.{concat}
use Rattle.unit_packets.specs.Blocks.{Block}
use Rattle.unit_packets.specs.Packing.{packed}
use Rattle.pitch_model.specs.Book.{Book, empty_book, after}
use Rattle.pitch_model.specs.History.{Raw}
use Rattle.unit_clients.specs.Tables.{AtEach}
use Rattle.relay_unit.specs.Following.{Sends, HasSent}
use Rattle.relay_unit.specs.Relays.{Relays}
use Rattle.relay_unit.specs.Stands.{followed_book, relay_unit_of}
use Rattle.relay_unit.specs.declared.relay.Relay.{Relay}

-- the book of the relay in a place; where there is none yet, no message was sent
abbrev pub book_in : Option Relay → Book
book_in None = empty_book
book_in (Some relay) = followed_book relay

-- the book of a unit's relay
abbrev pub book_at : Option (Option Relay) → Book
book_at None = empty_book
book_at (Some place) = book_in place

abbrev pub book_of_unit : Relays → ℕ → Book
book_of_unit r unit = book_at (slice_get r.places unit)

-- the relay in a place has sent these messages under this unit
abbrev pub HasSentAt : ℕ → List Raw → Option Relay → Type 0
HasSentAt unit sent None = sent ≡ []
HasSentAt unit sent (Some relay) = (relay_unit_of relay ≡ unit) × HasSent relay sent

-- each unit's relay has sent its messages
abbrev pub HaveSent : Relays → (ℕ → List Raw) → Type 0
HaveSent r Sent = AtEach (λ unit place. HasSentAt unit (Sent unit) place) r.places

-- more messages of one unit
abbrev pub with_more : (ℕ → List Raw) → ℕ → List Raw → ℕ → List Raw
with_more Sent unit more other = if other == unit then Sent other ++ more else Sent other

-- behind the messages of its unit, the relay of a block sends more, under the next sequences; those
-- of a block with a sequence are applied and nothing else
pub record SendMore (r r' : Relays) (block : Block) (Sent : ℕ → List Raw) (added : List ℕ) :
    Type 0 where
  pub more : List Raw
  pub added_is : added ≡ concat (packed block.unit (length (Sent block.unit) + 1) more)
  pub sends : Sends (book_of_unit r block.unit) more (book_of_unit r' block.unit)
  pub line : block.sequence ≢ 0
      → book_of_unit r' block.unit ≡ fold after (book_of_unit r block.unit) more
  pub sent_are : HaveSent r' (with_more Sent block.unit more)

-- whatever was heard, what is appended are messages behind all that was sent
abbrev pub AppendAny : Relays → Relays → Block → (out out' : List ℕ) → Type 0
AppendAny r r' block out out' =
    (Sent : ℕ → List Raw) → HaveSent r Sent
    → (added : List ℕ) × (out' ≡ out ++ added) × SendMore r r' block Sent added

-- the same of one place
pub record SendsMoreAt (place place' : Option Relay) (block : Block) (sent : List Raw)
    (added : List ℕ) : Type 0 where
  pub more : List Raw
  pub added_is : added ≡ concat (packed block.unit (length sent + 1) more)
  pub sends : Sends (book_in place) more (book_in place')
  pub line : block.sequence ≢ 0 → book_in place' ≡ fold after (book_in place) more
  pub sent_is : HasSentAt block.unit (sent ++ more) place'

abbrev pub AppendsAnyAt : (place place' : Option Relay) → Block → (out out' : List ℕ) → Type 0
AppendsAnyAt place place' block out out' =
    (sent : List Raw) → HasSentAt block.unit sent place
    → (added : List ℕ) × (out' ≡ out ++ added) × SendsMoreAt place place' block sent added
