-- What the client at a unit's place stands for, and what is read off a book that was reached.
use Rattle.std.specs.Prelude.{◌≡◌, ℕ, List, Some, slice_get}
use Rattle.std.proofs.Common.{subst}
use Rattle.pitch_model.specs.Book.{Book}
use Rattle.pitch_model.specs.History.{Raw}
use Rattle.pitch_model.specs.Honest.{Honest}
use Rattle.unit_packets.specs.Blocks.{Block}
use Rattle.heard_items.specs.Units.{unit_history}
use Rattle.client_core.specs.Tracks.{Tracks, Keeps}
use Rattle.client_core.specs.declared.client.UnitClient.{UnitClient}
use Rattle.unit_clients.specs.Clients.{Units, HaveHeard}
use Rattle.sending_end.specs.declared.end.SendingEnd.{SendingEnd}
use Rattle.pitch_c.specs.Clients.{OfReachedBook}
use Rattle.pitch_c.specs.Ends.{OfEndBook}

module _ (units : Units) (unit : ℕ) (client : UnitClient) (at : slice_get units.places unit ≡ Some (Some client)) (before : List Block) (h : HaveHeard units before) where
  -- it is where the unit's blocks bring it
  pub tracks_there : Tracks client units.limit (unit_history unit before)
  tracks_there = (h.clients.each unit (Some client) at).1

  -- it keeps to its venue's messages
  pub keeps_there : (Image : List Raw → ℕ → List Raw) (V : List Raw) → Honest Image V (unit_history unit before) → Keeps client V
  keeps_there Image V honest = h.keep.each unit (Some client) at Image V honest

-- what holds of the book that a client has holds of the book of the venue's first messages
pub of_reached : (units : Units) (unit : ℕ) (book : Book) (P : Book → Type 0) → OfReachedBook units unit (λ reached. book ≡ reached) → P book → OfReachedBook units unit P
of_reached units unit book P is here before Image V h honest = subst P (is before Image V h honest) here

-- so it is of an end
pub of_end_book : (e : SendingEnd) (book : Book) (P : Book → Type 0) → OfEndBook e (λ reached. book ≡ reached) → P book → OfEndBook e P
of_end_book e book P is here s before stands V venue = subst P (is s before stands V venue) here
