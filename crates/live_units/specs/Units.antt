-- All units of a live client, and what came to them.
use Rattle.std.specs.Prelude.{◌≡◌, ◌≢◌, ◌≤◌, ◌⊎◌, ℕ, List, [], Option, Result, Ok, Err}
use Rattle.std.specs.Prelude.{slice_get, drop, if◌then◌else◌}
use Rattle.std.specs.Option.{option_flatten}
use Rattle.pitch_io.specs.Putting.{Grows}
use Rattle.client_end.specs.Came.{Came, Second}
use Rattle.sending_end.specs.Waiting.{waits_after}
use Rattle.sending_end.specs.declared.session.Session.{Session}
use Rattle.stream_print.specs.Page.{Prints}
use Rattle.stream_print.specs.Putting.{PutsSome}
use Rattle.stream_print.specs.declared.putting.PutFailed.{PutFailed}
use Rattle.unit_clients.specs.Tables.{AtEach}
use Rattle.live_units.specs.Coming.{LiveSetup, UnitCame, AreBooksBelow, BeginsLiveText, IsLiveText}
use Rattle.live_units.specs.Coming.{block_count, end_setup, has_unit}
use Rattle.live_units.specs.Coming.{live_lines, state_at, to_unit, with_came, with_loss}
use Rattle.live_units.specs.Places.{IsUnitAt, waits_at}
use Rattle.live_units.specs.Standing.{IsTaken}
use Rattle.stream_print.specs.declared.failure.PrintError.{PrintError}
use Rattle.live_units.specs.declared.unit.Taken.{Taken}
use Rattle.live_units.specs.declared.units.LiveUnits.{LiveUnits}

-- ---- What they stand for
-- from what was written when they were made to what is written now: they stand for all that came,
-- and its lines were printed
pub record LiveStands (s : LiveSetup) (start now : Option (List ℕ)) (l : LiveUnits)
    (came : List UnitCame) : Type 0 where
  pub units_are : AtEach (IsUnitAt s came) l.units.places
  pub number_is : l.number ≡ block_count came
  pub printed : Prints start [] now l.page.text (live_lines s came)

-- P holds of each setup, of what was written at the start and of all that came, for which they
-- stand
abbrev pub OfLive : LiveUnits → Option (List ℕ)
    → (LiveSetup → Option (List ℕ) → List UnitCame → Type 0) → Type 0
OfLive l now P = (s : LiveSetup) (start : Option (List ℕ)) (came : List UnitCame)
    → LiveStands s start now l came → P s start came

-- ---- What was written
-- more than before, or as much
abbrev pub HasGrown : Option (List ℕ) → Option (List ℕ) → Type 0
HasGrown old new = (added : List ℕ) × Grows old new added

-- ---- What waits
-- for a session of a unit; nothing where the unit is not listened to
abbrev pub waiting_at : LiveUnits → ℕ → Session → List ℕ
waiting_at l unit session = waits_at (option_flatten (slice_get l.units.places unit)) session

-- the same for all sessions of all units
abbrev pub AllWait : LiveUnits → LiveUnits → Type 0
AllWait l l' = (unit : ℕ) (session : Session)
    → waiting_at l' unit session ≡ waiting_at l unit session

-- nothing waits
abbrev pub NoneWaitAtAll : LiveUnits → Type 0
NoneWaitAtAll l = (unit : ℕ) (session : Session) → waiting_at l unit session ≡ []

-- the same for those of the other units
abbrev pub OthersWait : LiveUnits → LiveUnits → ℕ → Type 0
OthersWait l l' unit = (other : ℕ) (session : Session) → other ≢ unit
    → waiting_at l' other session ≡ waiting_at l other session

-- what waits for a session of a unit once this came to the unit, where it is listened to
abbrev pub waits_then : LiveSetup → ℕ → Came → List UnitCame → Session → List ℕ → List ℕ
waits_then s unit came before session waiting =
    if has_unit s unit
    then waits_after session (end_setup s unit) came (state_at s unit before) waiting
    else waiting

-- ---- What comes
-- they stand for all that came to them and this, which came to a unit, and what waits follows
pub record CameAt (s : LiveSetup) (start now : Option (List ℕ)) (l l' : LiveUnits) (unit : ℕ)
    (came : Came) (before : List UnitCame) : Type 0 where
  pub stands : LiveStands s start now l' (with_came s (to_unit unit came) before)
  pub waits : (session : Session) → waiting_at l' unit session
      ≡ waits_then s unit came before session (waiting_at l unit session)
  pub others : OthersWait l l' unit

-- whatever came before, this came to a unit too
abbrev pub PassesAt : LiveUnits → LiveUnits → Option (List ℕ) → Option (List ℕ) → ℕ → Came
    → Type 0
PassesAt l l' now now' unit came =
    OfLive l now (λ s start before. CameAt s start now' l l' unit came before)

-- they stand for what they stood for, and as much was written
abbrev pub StandStill : LiveUnits → LiveUnits → Type 0
StandStill l l' = (now : Option (List ℕ))
    → OfLive l now (λ s start came. LiveStands s start now l' came)

-- all is as before
pub record StayAll (l l' : LiveUnits) : Type 0 where
  pub stand : StandStill l l'
  pub waits : AllWait l l'

-- a unit lost both its connections, and before that the second came to it or it did not; nothing
-- waits there
pub record LosesAt (l l' : LiveUnits) (unit : ℕ) : Type 0 where
  pub stands : (now : Option (List ℕ)) → OfLive l now (λ s start came.
      LiveStands s start now l' (with_loss s unit came)
      ⊎ LiveStands s start now l' (with_loss s unit (with_came s (to_unit unit Second) came)))
  pub waits : (session : Session) → waiting_at l' unit session ≡ []
  pub others : OthersWait l l' unit

-- bytes of a session came, by the answer: they came; or the connection was lost by them; or the
-- sink failed as it was told that the reach had moved, and a prefix of the lines was written
abbrev pub TakesBytes : (unit : ℕ) → Session → List ℕ → LiveUnits → LiveUnits
    → Option (List ℕ) → Option (List ℕ) → Result Taken PutFailed → Type 0
TakesBytes unit session piece l l' now now' (Ok taken) = (came : Came)
    × (IsTaken taken session piece came × PassesAt l l' now now' unit came)
TakesBytes unit session piece l l' now now' (Err error) = (came : Came) × ((taken : Taken)
    × (IsTaken taken session piece came × OfLive l now (λ s start before.
    PutsSome start now' (live_lines s (with_came s (to_unit unit came) before)))))

-- so many of the first bytes that wait for a session of a unit wait no more; all else is as before
pub record SendsAt (l l' : LiveUnits) (unit : ℕ) (session : Session) (count : ℕ) : Type 0 where
  pub stand : StandStill l l'
  pub here : waiting_at l' unit session ≡ drop count (waiting_at l unit session)
  pub others : (other : ℕ) (that : Session) → (other ≡ unit → that ≡ session → ⊥)
      → waiting_at l' other that ≡ waiting_at l other that

-- ---- The end
-- the books of the units below some number
abbrev pub AreFirstBooks : LiveSetup → List UnitCame → List ℕ → Type 0
AreFirstBooks s came text = (count : ℕ) × ((count ≤ 256) × AreBooksBelow count s came text)

-- by the answer, the whole text was written from the start, or a prefix of it
abbrev pub LiveEnds : LiveSetup → List UnitCame → Option (List ℕ) → Option (List ℕ)
    → Result (Unit {0}) PrintError → Type 0
LiveEnds s came start now (Ok done) =
    (text : List ℕ) × (IsLiveText s came text × Grows start now text)
LiveEnds s came start now (Err error) =
    (text : List ℕ) × (BeginsLiveText s came text × Grows start now text)
