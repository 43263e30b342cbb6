-- The script of a net in memory, and what it answers.
use Rattle.std.specs.Prelude.{◌≡◌, ℕ, ◌==◌, Bool, false, List, [], ◌∷◌, map, Option, None, Some}
use Rattle.std.specs.Prelude.{min, length, take, drop, if◌then◌else◌}
use Rattle.live_net.specs.declared.net.Received.{Received}
use Rattle.live_net.specs.declared.net.Received.TheVariants as received
use Rattle.live_net.specs.declared.live.WaitEnd.{WaitEnd}
use Rattle.live_net.specs.declared.live.WaitEnd.TheVariants as wait_end
use Rattle.live_net.specs.declared.live.PeerOpened.{PeerOpened}
use Rattle.live_net.specs.declared.live.PeerOpened.TheVariants as opened
use Rattle.live_net.specs.declared.live.PeerTaken.{PeerTaken}
use Rattle.live_net.specs.declared.live.PeerTaken.TheVariants as taken
use Rattle.live_net.specs.declared.live.PeerPut.{PeerPut}
use Rattle.live_net.specs.declared.live.PeerPut.TheVariants as put
use Rattle.venue_net.specs.declared.net.InputRead.{InputRead}
use Rattle.venue_net.specs.declared.net.InputRead.TheVariants as input
use Rattle.scripted_nets.specs.declared.script.NetStep.{NetStep}
use Rattle.scripted_nets.specs.declared.script.NetStep.TheVariants as kept
use Rattle.scripted_nets.specs.layers.Failing.{Failing}

-- what happens next: a wait ends, or ends with a second; a datagram comes on a line; a peer refuses
-- a connection; the input brings bytes, or ends; a client waits at the door of a place; and whoever
-- is at the other end of a connection, a peer or the client at a place, brings bytes, ends it, or
-- has room for so many bytes
pub data Step : Type 0 where
  Turn : Step
  Second : Step
  Comes : (line : ℕ) → (bytes : List ℕ) → Step
  Refuses : (peer : ℕ) → Step
  Types : (bytes : List ℕ) → Step
  EndsInput : Step
  Knocks : (place : ℕ) → Step
  Brings : (at : ℕ) → (bytes : List ℕ) → Step
  Ends : (at : ℕ) → Step
  HasRoom : (at : ℕ) → (room : ℕ) → Step

abbrev pub step_of : NetStep → Step
step_of kept.Turn = Turn
step_of kept.Second = Second
step_of (kept.Comes line bytes) = Comes line bytes.now
step_of (kept.Refuses peer) = Refuses peer
step_of (kept.Types bytes) = Types bytes.now
step_of kept.EndsInput = EndsInput
step_of (kept.Knocks place) = Knocks place
step_of (kept.Brings at bytes) = Brings at bytes.now
step_of (kept.Ends at) = Ends at
step_of (kept.HasRoom at room) = HasRoom at room

abbrev pub steps_of : List NetStep → List Step
steps_of steps = map step_of steps

-- a net in memory: what happens next, its calls where it lists them, and which of them fail
pub record Scripted (C : Type 0) : Type 0 where
  pub steps : List Step
  pub calls : Option (List C)
  pub failing : Failing

-- ---- What it answers
-- what a wait answers: it is over at the end of the script
abbrev pub wait_end_at : List Step → WaitEnd
wait_end_at [] = wait_end.Over
wait_end_at (Second ∷ steps) = wait_end.Second
wait_end_at (next ∷ steps) = wait_end.Ready

-- it takes out the turn or the second that is first
abbrev pub after_wait : List Step → List Step
after_wait (Turn ∷ steps) = steps
after_wait (Second ∷ steps) = steps
after_wait steps = steps

-- the datagram that is first, where it is this line's
abbrev pub next_datagram : ℕ → List Step → Option (List ℕ)
next_datagram line (Comes on bytes ∷ steps) = if on == line then Some bytes else None
next_datagram line steps = None

-- the answer to the question for a datagram: as much of it came as there was room for, or the line
-- was quiet where there was none
abbrev pub IsAnswer : Option (List ℕ) → Received → List ℕ → Type 0
IsAnswer None answer into = answer ≡ received.Quiet
IsAnswer (Some datagram) answer into =
    (answer ≡ received.Got (min (length datagram) (length into)))
    × (take (min (length datagram) (length into)) into
    ≡ take (min (length datagram) (length into)) datagram)

-- it is taken out
abbrev pub after_datagram : ℕ → List Step → List Step
after_datagram line (Comes on bytes ∷ steps) = if on == line then steps else Comes on bytes ∷ steps
after_datagram line steps = steps

-- a connection is begun, unless what is first is that its peer refuses
abbrev pub opened_at : ℕ → List Step → PeerOpened
opened_at peer (Refuses by ∷ steps) = if by == peer then opened.Refused else opened.Begun
opened_at peer steps = opened.Begun

-- that is taken out
abbrev pub after_open : ℕ → List Step → List Step
after_open peer (Refuses by ∷ steps) = if by == peer then steps else Refuses by ∷ steps
after_open peer steps = steps

-- the bytes that are first, where they come by this connection
abbrev pub brought : ℕ → List Step → List ℕ
brought at (Brings by bytes ∷ steps) = if by == at then bytes else []
brought at steps = []

-- so many bytes were taken, or none was there
abbrev pub got : ℕ → PeerTaken
got n = if n == 0 then taken.Quiet else taken.Got n

-- what a take answers that has so much room: as many of those bytes as there is room for, or Ended
-- where what is first is that the connection ends
abbrev pub taken_at : (at room : ℕ) → List Step → PeerTaken
taken_at at room (Brings by bytes ∷ steps) =
    if by == at then got (min (length bytes) room) else taken.Quiet
taken_at at room (Ends by ∷ steps) = if by == at then taken.Ended else taken.Quiet
taken_at at room steps = taken.Quiet

-- bytes of a connection come before other steps, where there are any
abbrev pub bring : ℕ → List ℕ → List Step → List Step
bring at [] steps = steps
bring at (byte ∷ bytes) steps = Brings at (byte ∷ bytes) ∷ steps

-- what was taken is taken out, and the rest of the bytes stays first
abbrev pub after_take : (at room : ℕ) → List Step → List Step
after_take at room (Brings by bytes ∷ steps) =
    if by == at then bring by (drop room bytes) steps else Brings by bytes ∷ steps
after_take at room (Ends by ∷ steps) = if by == at then steps else Ends by ∷ steps
after_take at room steps = steps

-- so many bytes were written, or there was no room
abbrev pub wrote : ℕ → PeerPut
wrote n = if n == 0 then put.Full else put.Wrote n

-- what a put of so many bytes answers: as many were written as there is room for, where that is
-- first, Ended where what is first is that the connection ends, and else all
abbrev pub put_at : (at count : ℕ) → List Step → PeerPut
put_at at count (HasRoom by room ∷ steps) =
    if by == at then wrote (min room count) else put.Wrote count
put_at at count (Ends by ∷ steps) = if by == at then put.Ended else put.Wrote count
put_at at count steps = put.Wrote count

-- that is taken out
abbrev pub after_put : ℕ → List Step → List Step
after_put at (HasRoom by room ∷ steps) = if by == at then steps else HasRoom by room ∷ steps
after_put at (Ends by ∷ steps) = if by == at then steps else Ends by ∷ steps
after_put at steps = steps

-- the bytes that are first, where they are the input's
abbrev pub typed : List Step → List ℕ
typed (Types bytes ∷ steps) = bytes
typed steps = []

-- so many bytes of the input came, or none was there
abbrev pub came : ℕ → InputRead
came n = if n == 0 then input.Quiet else input.Got n

-- what a read answers that has so much room: as many of those bytes as there is room for, or Ended
-- where what is first is that the input ends
abbrev pub read_at : (room : ℕ) → List Step → InputRead
read_at room (Types bytes ∷ steps) = came (min (length bytes) room)
read_at room (EndsInput ∷ steps) = input.Ended
read_at room steps = input.Quiet

-- bytes of the input come before other steps, where there are any
abbrev pub type_first : List ℕ → List Step → List Step
type_first [] steps = steps
type_first (byte ∷ bytes) steps = Types (byte ∷ bytes) ∷ steps

-- what was read is taken out, and the rest of the bytes stays first
abbrev pub after_read : (room : ℕ) → List Step → List Step
after_read room (Types bytes ∷ steps) = type_first (drop room bytes) steps
after_read room (EndsInput ∷ steps) = steps
after_read room steps = steps

-- a client is let in, where what is first is that one waits at the door of this place
abbrev pub lets_in : ℕ → List Step → Bool
lets_in place (Knocks at ∷ steps) = at == place
lets_in place steps = false

-- that is taken out
abbrev pub after_accept : ℕ → List Step → List Step
after_accept place (Knocks at ∷ steps) = if at == place then steps else Knocks at ∷ steps
after_accept place steps = steps
