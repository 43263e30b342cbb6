-- Histories that speak of one venue's messages alone.
use Rattle.std.specs.Prelude.{◌≡◌, ℕ, zero, suc, ◌+◌, ◌≤◌, List, [], ◌∷◌, length, Option, Some}
use Rattle.std.specs.Prelude.{None, slice_get}
use Rattle.pitch_model.specs.History.{Entry, Raw, Message, Next, Advertised, images_at, spin_of}

-- the venue's message of a sequence, which counts from 1
abbrev pub message_at : List Raw → ℕ → Option Raw
message_at V zero = None
message_at V (suc k) = slice_get V k

-- each raw, with rising sequence, is the venue's
abbrev pub AreVenues : List Raw → ℕ → List Raw → Type 0
AreVenues V first raws =
    (i : ℕ) (raw : Raw) → slice_get raws i ≡ Some raw → message_at V (first + i) ≡ Some raw

-- `Image V s` are the raws of the image through s, and V are the messages that the venue has
-- accepted
module _ (Image : List Raw → ℕ → List Raw) (V : List Raw) where
  -- an image that is finished is the venue's
  abbrev pub AreImages : List (ℕ × List Raw) → Type 0
  AreImages [] = Unit {0}
  AreImages (image ∷ images) = (image.0 ≤ length V) × (image.1 ≡ Image V image.0)

  -- an entry that comes after a history says what is so
  abbrev pub IsHonestAt : List Entry → Entry → Type 0
  -- the message is the venue's of that sequence
  IsHonestAt E (Message sequence raw) = message_at V sequence ≡ Some raw
  -- the next message may be the one after the last
  IsHonestAt E (Next next) = next ≤ length V + 1
  -- only an image of messages that were accepted is advertised
  IsHonestAt E (Advertised sequence) = sequence ≤ length V
  IsHonestAt E entry = AreImages (images_at entry (spin_of E))

  -- each entry of a history is honest
  abbrev pub Honest : List Entry → Type 0
  Honest [] = Unit {0}
  Honest (entry ∷ E) = IsHonestAt E entry × Honest E
