-- The place of a unit among those of a live client.
use Rattle.std.specs.Prelude.{◌≡◌, ℕ, true, false, List, [], Option, None, Some, Result, Ok}
use Rattle.std.specs.Prelude.{if◌then◌else◌}
use Rattle.unit_packets.specs.Blocks.{Block}
use Rattle.pitch_model.specs.Book.{Book}
use Rattle.pitch_model.specs.Reach.{reach}
use Rattle.feed_lines.specs.BookText.{book_text}
use Rattle.feed_lines.specs.Follow.{line_at}
use Rattle.client_end.specs.Came.{Heard, end_history}
use Rattle.sending_end.specs.Stands.{WaitsStill, waiting}
use Rattle.sending_end.specs.declared.session.Session.{Session}
use Rattle.stream_print.specs.Page.{Prints}
use Rattle.stream_print.specs.declared.putting.PutFailed.{PutFailed}
use Rattle.live_units.specs.Coming.{LiveSetup, UnitCame, IsBookAt, came_to, end_setup}
use Rattle.live_units.specs.Coming.{has_book, has_unit, history_at}
use Rattle.live_units.specs.Standing.{ComesTo, OfUnit, TakesPiece, UnitStands}
use Rattle.live_units.specs.declared.unit.LiveUnit.{LiveUnit}
use Rattle.live_units.specs.declared.unit.Taken.{Taken}
use Rattle.live_units.specs.declared.unit.Taken.TheVariants.{Whole}

-- a unit stands there where it is listened to, for all that came to it
abbrev pub IsUnitAt : LiveSetup → List UnitCame → ℕ → Option LiveUnit → Type 0
IsUnitAt s came unit None = has_unit s unit ≡ false
IsUnitAt s came unit (Some u) =
    (has_unit s unit ≡ true) × UnitStands (end_setup s unit) u (came_to unit came)

-- so it was with the unit there, where one stands
abbrev pub AtPlace : (LiveUnit → LiveUnit → Type 0) → Option LiveUnit → Option LiveUnit → Type 0
AtPlace P None None = Unit {0}
AtPlace P None (Some u') = ⊥
AtPlace P (Some u) None = ⊥
AtPlace P (Some u) (Some u') = P u u'

-- the unit there heard a block, and its line was printed; where none stands, nothing was
abbrev pub HearsAt : (number : ℕ) → Block → (place place' : Option LiveUnit)
    → (w w' : Option (List ℕ)) → (page page' : List ℕ) → Type 0
HearsAt number block None None w w' page page' = (w' ≡ w) × (page' ≡ page)
HearsAt number block None (Some u') w w' page page' = ⊥
HearsAt number block (Some u) None w w' page page' = ⊥
HearsAt number block (Some u) (Some u') w w' page page' =
    ComesTo u u' (Heard block) × (WaitsStill u.end u'.end × OfUnit u (λ s before.
    Prints w page w' page' (line_at s.hold number block (end_history s before))))

-- bytes came to the unit there; where none stands, nothing was printed
abbrev pub TakesAt : Session → List ℕ → (place place' : Option LiveUnit) → Result Taken PutFailed
    → (w w' : Option (List ℕ)) → (page page' : List ℕ) → Type 0
TakesAt session piece None None result w w' page page' =
    (result ≡ Ok Whole) × ((w' ≡ w) × (page' ≡ page))
TakesAt session piece None (Some u') result w w' page page' = ⊥
TakesAt session piece (Some u) None result w w' page page' = ⊥
TakesAt session piece (Some u) (Some u') result w w' page page' =
    TakesPiece u u' session piece result w w' page page'

-- what waits for a session of the unit there
abbrev pub waits_at : Option LiveUnit → Session → List ℕ
waits_at None session = []
waits_at (Some u) session = waiting session u.end

-- nothing came to it yet, and nothing waits
pub record IsNewAt (s : LiveSetup) (unit : ℕ) (place : Option LiveUnit) : Type 0 where
  pub stands : IsUnitAt s [] unit place
  pub waits : (session : Session) → waits_at place session ≡ []

-- the text of a unit's book, where it has one to print
pub record IsTextAt (s : LiveSetup) (came : List UnitCame) (unit : ℕ) (text : List ℕ)
    : Type 0 where
  pub book : Book
  pub right : has_book s came unit ≡ true → IsBookAt s came unit book
  pub text_is : text ≡ (if has_book s came unit
      then book_text unit (reach s.hold (history_at s unit came)) book else [])
