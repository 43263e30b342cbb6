-- What the client's own functions tell one another. No public clause needs this file.
use Rattle.std.specs.Prelude.{◌≡◌, ℕ, ◌+◌, ◌-◌, ◌^◌, ◌≤◌, ◌&&◌, not, nat_lt, min, List, [], ◌∷◌}
use Rattle.std.specs.Prelude.{drop, take}
use Rattle.pitch_fields.specs.Limits.{last_sequence}
use Rattle.std.specs.FinMap.{len}
use Rattle.order_book.specs.Standing.{Standing}
use Rattle.hold_buffer.specs.HoldView.{HoldView}
use Rattle.pitch_model.specs.Book.{Book, book_after}
use Rattle.pitch_model.specs.History.{Entry, Raw, Spinning, adds, image_finished, bad_image}
use Rattle.pitch_model.specs.Reach.{SinceOverflow, grown, settled, overflows, reach_of, is_seen}
use Rattle.pitch_model.specs.layers.Settling.{Settled}
use Rattle.heard_items.specs.Changes.{fresh_of, overflows_of, image_end}
use Rattle.heard_items.specs.declared.item.Item.{Item}
use Rattle.client_core.specs.Keeping.{holds, order_count}
use Rattle.client_core.specs.Applying.{Applies}
use Rattle.client_core.specs.Client.{current_book, reached}
use Rattle.client_core.specs.declared.client.UnitClient.{UnitClient}
use Rattle.client_core.specs.declared.hearing.Heard.{Heard}
use Rattle.client_core.specs.declared.spinning.Finish.{Finish}
use Rattle.client_core.specs.declared.spinning.Finish.TheVariants.{Nothing, Image, BadCount}
use Rattle.client_core.specs.declared.spinning.SpinState.{SpinState}
use Rattle.client_core.specs.declared.spinning.SpinState.TheVariants.{NoSpin, Asked, Running}
use Rattle.client_core.specs.declared.taking.Taken.{Taken}

-- ---- Room in a book
-- the book has room for so many messages and for what is held, or for all that can still be
-- applied before the last sequence
abbrev pub HasRoom : ℕ → HoldView → ℕ → Type 0
HasRoom left h spare = min (left + len h.held) (last_sequence - h.floor) ≤ spare

-- a book of an image through a sequence has room for so many messages that are held, or for all
-- that can follow
abbrev pub HasRoomAfter : ℕ → ℕ → ℕ → Type 0
HasRoomAfter held through spare = min held (last_sequence - through) ≤ spare

-- the image that a Spin Finished for a sequence would finish has room for so many messages that are
-- held
abbrev pub IsImageReady : ℕ → ℕ → SpinState → Type 0
IsImageReady held sequence (Running image) =
    image.sequence ≡ sequence
    → image.got ≡ image.promised → HasRoomAfter held sequence image.book.spare
IsImageReady held sequence NoSpin = Unit {0}
IsImageReady held sequence (Asked asked) = Unit {0}

-- the book of a finished image has such room, and no more orders than messages
abbrev pub FitsHeld : ℕ → Finish → Type 0
FitsHeld held (Image through book) =
    (order_count book.book ≤ through) × HasRoomAfter held through book.spare
FitsHeld held Nothing = Unit {0}
FitsHeld held (BadCount promised got) = Unit {0}

-- ---- What is noted of the messages that are applied
-- some messages were applied, and just these were noted
pub record NotesApplied {N : Type 0} (noted : N → N → Book → List Raw → Type 0)
    (n n' : ℕ) (book book' : Standing) (first last : N) : Type 0 where
  pub applied : List Raw
  pub applies : Applies n n' book book' applied
  pub noted_are : noted first last book.book applied

-- the venue's messages from the old reach to the new one were noted
abbrev pub NotesVenues : {N : Type 0} → (N → N → Book → List Raw → Type 0)
    → UnitClient → UnitClient → List Raw → N → N → Type 0
NotesVenues noted c c' V first last =
    noted first last (current_book c) (drop (reached c) (take (reached c') V))

-- ---- Answers
-- a message was taken in where what came so far was P: the hold then stands at the reach and holds
-- what is held, and the answer says whether the message was fresh and whether the hold overflowed
pub record TakesIn (P : SinceOverflow) (h : HoldView)
    (sequence : ℕ) (h' : HoldView) (taken : Taken) : Type 0 where
  pub settled_then : Settled
      (settled h.limit (grown P [] (sequence ∷ [])) (sequence ∷ [])) h'.floor (holds h')
  pub overflow_is : taken.overflow ≡ overflows h.limit (grown P [] (sequence ∷ [])) (sequence ∷ [])
  pub fresh_is : taken.fresh ≡ (nat_lt (reach_of P) sequence && not (is_seen P sequence))

-- how a Spin Finished for a sequence ends the spin
abbrev pub EndsSpin : Finish → Spinning → ℕ → Type 0
-- no image ends
EndsSpin Nothing S sequence = (image_finished S sequence ≡ []) × (bad_image S sequence ≡ [])
-- one is finished, and this is its book
EndsSpin (Image through book) S sequence =
    (raws : List Raw) × (image_finished S sequence ≡ (through, raws) ∷ [])
    × (book.book ≡ book_after raws)
-- one is bad
EndsSpin (BadCount promised got) S sequence =
    (image_finished S sequence ≡ []) × (raws : List Raw)
    × (bad_image S sequence ≡ (promised, raws) ∷ []) × (got ≡ min (adds raws) (2 ^ 64 - 1))

-- the counts and the image of an item that is heard after a history
pub record Tells (H : ℕ) (E : List Entry) (it : Item) (heard : Heard) : Type 0 where
  pub fresh_is : heard.fresh ≡ fresh_of H E it
  pub overflows_are : heard.overflows ≡ overflows_of H E it
  pub image_is : heard.image ≡ image_end H E it
