-- Histories that speak of a venue.
use Rattle.std.proofs.Common.{ℕ, List}
use Rattle.std.specs.List.{AllByRecursion}
use Rattle.pitch_fields.specs.Fields.{AreBytes}
use Rattle.pitch_model.specs.History.{Entry, Raw}
use Rattle.pitch_model.specs.Honest.{Honest}
use Rattle.pitch_model.specs.Image.{image}
use Rattle.pitch_model.proofs.Images.{image_book}
use Rattle.client_core.specs.Venues.{IsVenue}

-- with the images of this feed
pub own_venue : (V : List Raw) (E : List Entry) → AllByRecursion AreBytes V → Honest image V E → IsVenue V E
own_venue V E bytes honest = record { Image = image; are_images = λ s. image_book V s bytes; honest = honest }

-- a history speaks of the venue of another where it is honest as soon as that one is
pub venue_by : (V : List Raw) (E F : List Entry) → ((Image : List Raw → ℕ → List Raw) → Honest Image V E → Honest Image V F) → IsVenue V E → IsVenue V F
venue_by V E F honest venue = record { Image = venue.Image; are_images = venue.are_images; honest = honest venue.Image venue.honest }
