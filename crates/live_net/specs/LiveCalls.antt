-- The calls of a net of lines and peers.
use Rattle.std.specs.Prelude.{◌≡◌, ℕ, ◌<◌, ◌≤◌, Bool, List, [], ◌∷◌, length, take}
use Rattle.std.specs.Prelude.{Option, None, Some}
use Rattle.live_net.specs.declared.net.Received.{Received}
use Rattle.live_net.specs.declared.live.WaitEnd.{WaitEnd}
use Rattle.live_net.specs.declared.live.WaitEnd.TheVariants as wait_end
use Rattle.live_net.specs.declared.live.PeerOpened.{PeerOpened}
use Rattle.live_net.specs.declared.live.PeerTaken.{PeerTaken}
use Rattle.live_net.specs.declared.live.PeerTaken.TheVariants as taken
use Rattle.live_net.specs.declared.live.PeerPut.{PeerPut}
use Rattle.live_net.specs.declared.live.PeerPut.TheVariants as put

-- a call with its answer: a wait, and whether it was told that more may be there; a datagram that
-- was asked for, with its line, the length of the slice that was handed in, and its bytes; and of a
-- peer's connection, that it was begun, bytes that were asked for, a piece that was put, and that
-- it was closed
pub data LiveCall : Type 0 where
  Wait : (more : Bool) → (answer : WaitEnd) → LiveCall
  Receive : (line : ℕ) → (room : ℕ) → (bytes : List ℕ) → (answer : Received) → LiveCall
  Open : (peer : ℕ) → (answer : PeerOpened) → LiveCall
  Take : (peer : ℕ) → (room : ℕ) → (bytes : List ℕ) → (answer : PeerTaken) → LiveCall
  Put : (peer : ℕ) → (piece : List ℕ) → (answer : PeerPut) → LiveCall
  Close : (peer : ℕ) → LiveCall

-- where the net lists its calls after this one, the newest first, it listed them before, and this
-- one was added
abbrev pub AddsLiveCall : Option (List LiveCall) → Option (List LiveCall) → LiveCall → Type 0
AddsLiveCall old None call = Unit {0}
AddsLiveCall None (Some calls) call = ⊥
AddsLiveCall (Some before) (Some calls) call = calls ≡ call ∷ before

-- the bytes that were taken, in a slice as the call left it
abbrev pub taken_in : PeerTaken → List ℕ → List ℕ
taken_in (taken.Got n) into = take n into
taken_in answer into = []

-- where bytes were taken, from 1 to the length of the slice
abbrev pub PeerTakenWithin : PeerTaken → List ℕ → Type 0
PeerTakenWithin (taken.Got n) into = (0 < n) × (n ≤ length into)
PeerTakenWithin answer into = Unit {0}

-- where bytes were written, from 1 to the length of the piece
abbrev pub PeerPutWithin : PeerPut → List ℕ → Type 0
PeerPutWithin (put.Wrote n) piece = (0 < n) × (n ≤ length piece)
PeerPutWithin answer piece = Unit {0}

abbrev pub WaitEndFailed : WaitEnd → Type 0
WaitEndFailed wait_end.Failed = Unit {0}
WaitEndFailed answer = ⊥
