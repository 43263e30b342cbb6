-- A unit of a live client, and what came to it.
use Rattle.std.specs.Prelude.{◌≡◌, ◌≢◌, ◌⊎◌, ℕ, List, [], ◌∷◌, ◌++◌, Option, Result, OnOk, OnErr}
use Rattle.std.specs.Prelude.{IfOk, None, Some, drop, min, take, if◌then◌else◌}
use Rattle.std.specs.List.{list_any}
use Rattle.pitch_model.specs.Book.{Book, book_after}
use Rattle.pitch_model.specs.History.{Raw}
use Rattle.pitch_model.specs.Reach.{reach}
use Rattle.feed_lines.specs.BookText.{book_text}
use Rattle.client_core.specs.Venues.{IsVenue}
use Rattle.client_end.specs.Came.{Came, EndSetup, GrpCut, SpinCut, Second, end_history}
use Rattle.sending_end.specs.Waiting.{lost, took}
use Rattle.sending_end.specs.Stands.{NoneWaits, Passes, SendingStands, WaitsStill}
use Rattle.sending_end.specs.Stands.{waiting}
use Rattle.sending_end.specs.declared.session.Session.{Session}
use Rattle.stream_print.specs.Page.{Prints}
use Rattle.stream_print.specs.Putting.{PutsSome}
use Rattle.stream_print.specs.declared.putting.PutFailed.{PutFailed}
use Rattle.live_units.specs.Ended.{ends_of}
use Rattle.live_units.specs.LiveText.{came_text, is_block, is_told_of}
use Rattle.live_units.specs.declared.unit.LiveUnit.{LiveUnit}
use Rattle.live_units.specs.declared.unit.Taken.{Taken}
use Rattle.live_units.specs.declared.unit.Taken.TheVariants.{Whole, Lost}

-- the lower of two numbers, where there are two; the lowest of some
abbrev pub lower_of : ℕ → Option ℕ → ℕ
lower_of number None = number
lower_of number (Some other) = min number other

abbrev pub lowest : List ℕ → Option ℕ
lowest [] = None
lowest (number ∷ numbers) = Some (lower_of number (lowest numbers))

-- its end stands for all that came to it, and it knows whether a block did, and the lowest sequence
-- of the End of Session messages that did
pub record UnitStands (s : EndSetup) (u : LiveUnit) (before : List Came) : Type 0 where
  pub unit_is : u.unit ≡ s.unit
  pub end_is : SendingStands s u.end before
  pub blocks_are : u.has_block ≡ list_any is_block before
  pub ends_are : u.first_end ≡ lowest (ends_of (end_history s before))

-- P holds of each setup and all that came for which the unit stands
abbrev pub OfUnit : LiveUnit → (EndSetup → List Came → Type 0) → Type 0
OfUnit u P = (s : EndSetup) (before : List Came) → UnitStands s u before → P s before

-- whatever came before, this came too
abbrev pub ComesTo : LiveUnit → LiveUnit → Came → Type 0
ComesTo u u' came = OfUnit u (λ s before. UnitStands s u' (came ∷ before))

-- this came to its end, and what waits follows
pub record UnitPasses (u u' : LiveUnit) (came : Came) : Type 0 where
  pub comes : ComesTo u u' came
  pub waits : Passes u.end u'.end came

-- it stands for what it stood for, and the same bytes wait
pub record UnitStays (u u' : LiveUnit) : Type 0 where
  pub stands : OfUnit u (λ s before. UnitStands s u' before)
  pub waits : WaitsStill u.end u'.end

-- both its connections are cut, and before that the second came or it did not; nothing waits
pub record UnitLoses (u u' : LiveUnit) : Type 0 where
  pub stands : OfUnit u (λ s before. UnitStands s u' (SpinCut ∷ GrpCut ∷ before))
      ⊎ OfUnit u (λ s before. UnitStands s u' (SpinCut ∷ GrpCut ∷ Second ∷ before))
  pub waits : NoneWaits u'.end

-- so many of the first bytes that wait for a session wait no more; all else is as before
pub record UnitSends (session : Session) (count : ℕ) (u u' : LiveUnit) : Type 0 where
  pub left : waiting session u'.end ≡ drop count (waiting session u.end)
  pub others : (other : Session) → other ≢ session
      → waiting other u'.end ≡ waiting other u.end
  pub stands : OfUnit u (λ s before. UnitStands s u' before)

-- how a session's bytes came: all that they told was heard, or the connection was lost by them
abbrev pub IsTaken : Taken → Session → List ℕ → Came → Type 0
IsTaken Whole session piece came = came ≡ took session piece
IsTaken Lost session piece came = (count : ℕ) × (came ≡ lost session piece count)

-- bytes of a session came to a unit, and where its reach moved by them, that was printed, or some
-- prefix of the page and that text was written
pub record TakesPiece (u u' : LiveUnit) (session : Session) (piece : List ℕ)
    (result : Result Taken PutFailed) (w w' : Option (List ℕ)) (page page' : List ℕ)
    : Type 0 where
  pub taken : Taken
  pub came : Came
  pub is_taken : IsTaken taken session piece came
  pub answer : IfOk result (λ answer. answer ≡ taken)
  pub passes : Passes u.end u'.end came
  pub same : (u'.unit ≡ u.unit) × ((u'.has_block ≡ u.has_block) × (u'.first_end ≡ u.first_end))
  pub prints : OnOk result (OfUnit u (λ s before. (k : ℕ)
      → Prints w page w' page' (came_text s k came before)))
  pub fails : OnErr result (OfUnit u (λ s before. (k : ℕ)
      → PutsSome w w' (page ++ came_text s k came before)))

-- the text of the book of a unit that was told of, at its reach; for each venue of which its
-- history speaks honestly, the book is what the first messages leave, up to the reach
pub record IsBookText (s : EndSetup) (before : List Came) (text : List ℕ) : Type 0 where
  pub book : Book
  pub right : (V : List Raw) → IsVenue V (end_history s before)
      → book ≡ book_after (take (reach s.hold (end_history s before)) V)
  pub text_is : text ≡ (if is_told_of s before
      then book_text s.unit (reach s.hold (end_history s before)) book else [])
