use Rattle.std.proofs.Common.{ℕ, List, [], ◌∷◌, ap}
use Rattle.venue_end.specs.Came.{journal_in, venue_after}
use Rattle.venue_end.proofs.venue.VenueEnd.beat.Goals as goal

pub returns-clause-piece : goal.returns-clause-piece
returns-clause-piece c = λ s before is. c.beat.ensures.piece (journal_in s (venue_after s before)) is.market

pub returns-clause-bytes : goal.returns-clause-bytes
returns-clause-bytes c = λ s before is. ap (λ (b : List ℕ). b ∷ []) (c.beat.ensures.bytes (journal_in s (venue_after s before)) is.market)
