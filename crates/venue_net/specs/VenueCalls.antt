-- The calls of a venue's net.
use Rattle.std.specs.Prelude.{◌≡◌, ℕ, ◌<◌, ◌≤◌, Bool, List, [], ◌∷◌, length, take}
use Rattle.std.specs.Prelude.{Option, None, Some}
use Rattle.live_net.specs.declared.live.WaitEnd.{WaitEnd}
use Rattle.live_net.specs.declared.live.PeerTaken.{PeerTaken}
use Rattle.live_net.specs.declared.live.PeerPut.{PeerPut}
use Rattle.venue_net.specs.declared.net.InputRead.{InputRead}
use Rattle.venue_net.specs.declared.net.InputRead.TheVariants as input

-- a call with its answer: a wait, and whether it was told that more may be there; bytes of the
-- input that were asked for, with the length of the slice that was handed in; a datagram that was
-- sent on a line; and of the connection at a place, whether one was let in there, bytes that were
-- asked for, a piece that was put, and that it was closed
pub data VenueCall : Type 0 where
  Wait : (more : Bool) → (answer : WaitEnd) → VenueCall
  Read : (room : ℕ) → (bytes : List ℕ) → (answer : InputRead) → VenueCall
  Send : (line : ℕ) → (datagram : List ℕ) → VenueCall
  Accept : (place : ℕ) → (came : Bool) → VenueCall
  Take : (place : ℕ) → (room : ℕ) → (bytes : List ℕ) → (answer : PeerTaken) → VenueCall
  Put : (place : ℕ) → (piece : List ℕ) → (answer : PeerPut) → VenueCall
  Close : (place : ℕ) → VenueCall

-- where the net lists its calls after this one, the newest first, it listed them before, and this
-- one was added
abbrev pub AddsVenueCall : Option (List VenueCall) → Option (List VenueCall) → VenueCall → Type 0
AddsVenueCall old None call = Unit {0}
AddsVenueCall None (Some calls) call = ⊥
AddsVenueCall (Some before) (Some calls) call = calls ≡ call ∷ before

-- the bytes of the input that came, in a slice as the call left it
abbrev pub read_in : InputRead → List ℕ → List ℕ
read_in (input.Got n) into = take n into
read_in answer into = []

-- where bytes came, from 1 to the length of the slice
abbrev pub ReadWithin : InputRead → List ℕ → Type 0
ReadWithin (input.Got n) into = (0 < n) × (n ≤ length into)
ReadWithin answer into = Unit {0}

abbrev pub ReadFailed : InputRead → Type 0
ReadFailed input.Failed = Unit {0}
ReadFailed answer = ⊥
