-- When a history speaks of a venue.
use Rattle.std.specs.Prelude.{◌≡◌, ℕ, List, take}
use Rattle.pitch_model.specs.Book.{book_after}
use Rattle.pitch_model.specs.History.{Entry, Raw}
use Rattle.pitch_model.specs.Honest.{Honest}

-- `Image V s` leaves the book that the first s of the messages V leave
abbrev pub IsImage : (List Raw → ℕ → List Raw) → List Raw → Type 0
IsImage Image V = (s : ℕ) → book_after (Image V s) ≡ book_after (take s V)

-- V are the messages of a venue of which a history speaks honestly: it makes its images in some
-- form, in which each leaves the book of its first messages
pub record IsVenue (V : List Raw) (E : List Entry) : Type 0 where
  pub Image : List Raw → ℕ → List Raw
  pub are_images : IsImage Image V
  pub honest : Honest Image V E
