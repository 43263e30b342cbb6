-- What an end that C holds stands for, what C is told of it, and when each function of it gives
-- which answer. What came stands newest first.
use Rattle.std.specs.Prelude.{◌≡◌, ◌≤◌, ◌==◌, ◌++◌, ◌+◌, nat_lt, ℕ, List, [], length, take, drop}
use Rattle.std.specs.Prelude.{min, replicate, Option, None, Some, is_some, IfSome, if◌then◌else◌}
use Rattle.std.specs.Option.{IsSome, IsSomeAnd}
use Rattle.std.specs.FinMap as map
use Rattle.pitch_fields.specs.Side.{side_of}
use Rattle.pitch_model.specs.Book.{Book, book_after}
use Rattle.pitch_model.specs.History.{Raw}
use Rattle.pitch_model.specs.Levels.{best, with_level}
use Rattle.pitch_model.specs.Reach.{reach}
use Rattle.pitch_model.specs.Status.{status_of}
use Rattle.unit_packets.specs.Cutting.{blocks_of, rest_of}
use Rattle.client_core.specs.Venues.{IsVenue}
use Rattle.client_end.specs.Came.{Second, end_after, end_history}
use Rattle.sending_end.specs.Stands.{SendingStands, OfSending, StaysSo, Passes, LosesAll}
use Rattle.sending_end.specs.Stands.{HearsBlocks, HearsBegun, NoneWaits, waiting}
use Rattle.sending_end.specs.Waiting.{of_unit, made, took, ended, lost, link_of}
use Rattle.sending_end.specs.declared.end.SendingEnd.{SendingEnd}
use Rattle.sending_end.specs.declared.session.Session.{Session}
use Rattle.sending_end.specs.declared.session.Session.TheVariants.{Proxy, SpinServer}
use Rattle.pitch_c.specs.Codes as code
use Rattle.pitch_c.specs.Answers.{Answers, hold_code}
use Rattle.pitch_c.specs.Lists.{ListsOrders, ListsStates, ListsLevels}
use Rattle.pitch_c.specs.Reports.{status_shown, best_shown, order_shown, level_shown}
use Rattle.pitch_c.specs.declared.reports.StatusOut.{StatusOut}
use Rattle.pitch_c.specs.declared.reports.BestOut.{BestOut}
use Rattle.pitch_c.specs.declared.reports.OrderOut.{OrderOut}
use Rattle.pitch_c.specs.declared.reports.StateOut.{StateOut}
use Rattle.pitch_c.specs.declared.reports.LevelOut.{LevelOut}
use Rattle.pitch_c.specs.declared.end_reports.DatagramOut.{DatagramOut}
use Rattle.pitch_c.specs.declared.end_reports.SentOut.{SentOut}

-- ---- Numbers
-- the session of a number, where it has one
abbrev pub session_of : ℕ → Option Session
session_of number =
    if number == 1 then Some Proxy else if number == 2 then Some SpinServer else None

-- whether a session is one
abbrev pub session_code : Option Session → ℕ
session_code None = code.no_session
session_code (Some session) = code.ok

-- an end has a unit from 1 to 255, and its hold is as of any client
abbrev pub open_code : ℕ → ℕ → ℕ
open_code unit hold =
    if unit == 0 then code.bad_unit else if nat_lt 255 unit then code.bad_unit else hold_code hold

-- P holds of the session of this number, where it has one
abbrev pub OfSession : ℕ → (Session → Type 0) → Type 0
OfSession number P = IfSome (session_of number) P

-- ---- Calls that change it: the end before and after, and the answer
-- it was opened so: nothing came, and nothing waits
pub record IsOpened (unit hold : ℕ) (sub user password : List ℕ) (e : SendingEnd) : Type 0 where
  pub stands : SendingStands (record {
    unit = unit;
    account = record { sub = sub; user = user; password = password };
    hold = hold;
  }) e []
  pub waits : NoneWaits e

-- this is told of a datagram
pub record TellDatagram (unit : ℕ) (bytes : List ℕ) (told : DatagramOut) : Type 0 where
  pub heard : told.heard ≡ length (of_unit unit (blocks_of bytes))
  pub others : told.heard + told.others ≡ length (blocks_of bytes)
  pub rest : told.rest ≡ length (rest_of bytes)
  pub spare : told.spare ≡ replicate 5 0

pub record Hears (bytes : List ℕ) (told : DatagramOut) (result : ℕ)
    (e e' : SendingEnd) : Type 0 where
  pub answer : Answers code.ok result
  pub heard : result ≡ code.ok → HearsBlocks e e' (blocks_of bytes)
  pub tells : result ≡ code.ok → TellDatagram e.unit bytes told
  pub begun : result ≡ code.no_memory → HearsBegun e e' bytes

pub record Connects (number result : ℕ) (e e' : SendingEnd) : Type 0 where
  pub answer : Answers (session_code (session_of number)) result
  pub passes : result ≡ code.ok → OfSession number (λ session. Passes e e' (made session))
  pub stays : 1 ≤ result → StaysSo e e'

pub record Takes (number : ℕ) (bytes : List ℕ) (result : ℕ) (e e' : SendingEnd) : Type 0 where
  pub answer : Answers (session_code (session_of number)) result
  pub passes : result ≡ code.ok → OfSession number (λ session. Passes e e' (took session bytes))
  pub loses : result ≡ code.no_memory
      → OfSession number (λ session. (count : ℕ) × Passes e e' (lost session bytes count))
  pub none : OfSession number (λ session. OfSending e
      (λ s before. link_of session (end_after s before) ≡ None → result ≡ code.ok))
  pub stays : result ≡ code.no_session → StaysSo e e'

pub record Cuts (number result : ℕ) (e e' : SendingEnd) : Type 0 where
  pub answer : result ≡ session_code (session_of number)
  pub passes : OfSession number (λ session. Passes e e' (ended session))
  pub stays : result ≡ code.no_session → StaysSo e e'

pub record Ticks (result : ℕ) (e e' : SendingEnd) : Type 0 where
  pub answer : Answers code.ok result
  pub passes : result ≡ code.ok → Passes e e' Second
  pub loses : result ≡ code.no_memory → LosesAll e e'
  pub none : OfSending e (λ s before. (end_after s before).grp ≡ None
      → (end_after s before).spin ≡ None → result ≡ code.ok)

-- the first bytes that wait for a session stand at the start of the array, as many as fit, and
-- wait no more
pub record SendsFirst (session : Session) (old new : List ℕ) (told : SentOut)
    (e e' : SendingEnd) : Type 0 where
  pub count : told.count ≡ min (length (waiting session e)) (length old)
  pub array : new ≡ take told.count (waiting session e) ++ drop told.count old
  pub waits : waiting session e' ≡ drop told.count (waiting session e)
  pub left : told.left ≡ length (waiting session e')
  pub other : (other : Session) → (other ≡ session → ⊥) → waiting other e' ≡ waiting other e
  pub spare : told.spare ≡ replicate 2 0

pub record Sends (number : ℕ) (old new : List ℕ) (told : SentOut) (result : ℕ)
    (e e' : SendingEnd) : Type 0 where
  pub answer : result ≡ session_code (session_of number)
  pub sends : OfSession number (λ session. SendsFirst session old new told e e')
  pub stands : OfSending e (λ s before. SendingStands s e' before)
  pub stays : result ≡ code.no_session → StaysSo e e'

-- ---- Calls that ask it
-- whether a connection of a session stands
abbrev pub TellConnection : SendingEnd → ℕ → ℕ → Type 0
TellConnection e number told = OfSession number (λ session. OfSending e
    (λ s before. told ≡ (if is_some (link_of session (end_after s before)) then 1 else 0)))

-- of whatever came to it, the status is that of what its client heard
abbrev pub TellEndStatus : SendingEnd → StatusOut → Type 0
TellEndStatus e told =
    OfSending e (λ s before. told ≡ status_shown (status_of s.hold (end_history s before)))

-- of whatever came to it, and of each venue of which that speaks honestly, the answer is read off
-- the book of the first n messages, n the reach
abbrev pub OfEndBook : SendingEnd → (Book → Type 0) → Type 0
OfEndBook e P = OfSending e (λ s before. (V : List Raw) → IsVenue V (end_history s before)
    → P (book_after (take (reach s.hold (end_history s before)) V)))

abbrev pub TellEndBest : SendingEnd → List ℕ → ℕ → BestOut → Type 0
TellEndBest e symbol side told = IsSomeAnd (side_of side)
    (λ sided. OfEndBook e (λ book. told ≡ best_shown (best book symbol sided)))

abbrev pub TellEndOrder : SendingEnd → ℕ → OrderOut → Type 0
TellEndOrder e id told =
    OfEndBook e (λ book. told ≡ order_shown (map.get book.orders id))

-- the shares at a price, with it
abbrev pub TellEndLevel : SendingEnd → List ℕ → ℕ → ℕ → LevelOut → Type 0
TellEndLevel e symbol side price told = IsSomeAnd (side_of side)
    (λ sided. OfEndBook e (λ book. told ≡ level_shown (with_level book symbol sided price)))

-- ---- Lists of its book
abbrev pub TellEndOrders : SendingEnd → List OrderOut → List OrderOut → ℕ → Type 0
TellEndOrders e old new number = OfEndBook e (λ book. ListsOrders book old new number)

abbrev pub TellEndStates : SendingEnd → List StateOut → List StateOut → ℕ → Type 0
TellEndStates e old new number = OfEndBook e (λ book. ListsStates book old new number)

abbrev pub TellEndLevels : SendingEnd → List ℕ → ℕ → List LevelOut → List LevelOut → ℕ → Type 0
TellEndLevels e symbol side old new number = IsSomeAnd (side_of side)
    (λ sided. OfEndBook e (λ book. ListsLevels book symbol sided old new number))

-- where a list may want memory: that book has an open order, and the array a place
abbrev pub HasEndOrders : SendingEnd → List OrderOut → Type 0
HasEndOrders e array = (1 ≤ length array) × OfEndBook e (λ book. 1 ≤ map.len book.orders)

-- that book has an open order of a symbol on a side
abbrev pub HasEndSide : SendingEnd → List ℕ → ℕ → Type 0
HasEndSide e symbol side = IsSomeAnd (side_of side)
    (λ sided. OfEndBook e (λ book. IsSome (best book symbol sided)))
