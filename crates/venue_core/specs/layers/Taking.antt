-- What a venue that takes a message comes to.
use Rattle.std.specs.Prelude.{◌≡◌, ℕ, ◌+◌, ◌<◌, ◌≤◌, Bool, false, List, [], ◌∷◌, ◌++◌, None, Some}
use Rattle.std.specs.Prelude.{true, Option}
use Rattle.std.specs.FinMap as map
use Rattle.pitch_fields.specs.Fields.{AreBytes}
use Rattle.pitch_fields.specs.Limits.{last_sequence}
use Rattle.pitch_messages.specs.Raw.{IsRaw}
use Rattle.pitch_messages.specs.Reading.{reads}
use Rattle.pitch_model.specs.Book.{Book, after}
use Rattle.venue_core.specs.Refusals.{reads_end}
use Rattle.venue_core.specs.Waiting.{Waiting, Waits}
use Rattle.venue_core.specs.Standing.{VenueState}

-- the same with no message ready
abbrev pub unready : VenueState → VenueState
unready v = record v { ready = None }

-- each open order has a message before the next
abbrev pub HaveMessages : Book → Waiting → Type 0
HaveMessages book pending = map.len book.orders < pending.next

-- this message may be accepted, and no memory is wanted for it: the book has room for an order, and
-- no message is still to be packed
pub record MayTake (ends : Bool) (spare : ℕ) (ended : Bool) (pending : Waiting) (raw : List ℕ) :
    Type 0 where
  pub is_raw : IsRaw raw
  pub bytes : AreBytes raw
  pub ends_is : ends ≡ reads_end (reads raw)
  pub room : 1 ≤ spare
  pub goes_on : ended ≡ false
  pub next : pending.next ≤ last_sequence
  pub none_late : pending.late ≡ []

-- a message was taken in
pub record Advances (old : VenueState) (raw : List ℕ) (new : VenueState) : Type 0 where
  pub unit : new.unit ≡ old.unit
  pub book : new.book ≡ after old.book raw
  pub ended : new.ended ≡ reads_end (reads raw)
  pub last : new.last ≡ Some raw
  pub is_raw : IsRaw raw
  pub bytes : AreBytes raw
  pub next : new.pending.next ≡ old.pending.next + 1
  pub waits : (unit first : ℕ) (messages : List (List ℕ))
      → Waits old.pending unit first messages → Waits new.pending unit first (messages ++ raw ∷ [])

-- the last message, where it is still to be packed
abbrev pub late_of : Bool → Option (List ℕ) → List (List ℕ)
late_of false last = []
late_of true None = []
late_of true (Some raw) = raw ∷ []

-- there are messages, maybe none, that wait
pub record AreSome (waiting : Waiting) : Type 0 where
  pub unit : ℕ
  pub messages : List (List ℕ)
  pub waits : Waits waiting unit waiting.first messages
