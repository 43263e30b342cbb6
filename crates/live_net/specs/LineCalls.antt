-- The calls of a net of lines.
use Rattle.std.specs.Prelude.{◌≡◌, ℕ, ◌≤◌, Bool, List, [], ◌∷◌, length, take, Option, None, Some}
use Rattle.live_net.specs.declared.net.Woken.{Woken}
use Rattle.live_net.specs.declared.net.Woken.TheVariants as woken
use Rattle.live_net.specs.declared.net.Received.{Received}
use Rattle.live_net.specs.declared.net.Received.TheVariants as received

-- a call with its answer: a wait, and whether it was told that more may be there; and a datagram
-- that was asked for, with its line, the length of the slice that was handed in, and its bytes
pub data LineCall : Type 0 where
  Wait : (more : Bool) → (answer : Woken) → LineCall
  Receive : (line : ℕ) → (room : ℕ) → (bytes : List ℕ) → (answer : Received) → LineCall

-- where the net lists its calls after this one, the newest first, it listed them before, and this
-- one was added
abbrev pub AddsCall : Option (List LineCall) → Option (List LineCall) → LineCall → Type 0
AddsCall old None call = Unit {0}
AddsCall None (Some calls) call = ⊥
AddsCall (Some before) (Some calls) call = calls ≡ call ∷ before

-- the datagram that came, in a slice as the call left it
abbrev pub datagram_in : Received → List ℕ → List ℕ
datagram_in (received.Got n) into = take n into
datagram_in answer into = []

-- it is no longer than the slice
abbrev pub ReceivedWithin : Received → List ℕ → Type 0
ReceivedWithin (received.Got n) into = n ≤ length into
ReceivedWithin answer into = Unit {0}

abbrev pub WaitFailed : Woken → Type 0
WaitFailed woken.Failed = Unit {0}
WaitFailed answer = ⊥

abbrev pub ReceiveFailed : Received → Type 0
ReceiveFailed received.Failed = Unit {0}
ReceiveFailed answer = ⊥
