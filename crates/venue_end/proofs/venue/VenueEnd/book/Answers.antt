use Rattle.venue_end.specs.Came.{journal_in, venue_after}
use Rattle.venue_end.proofs.venue.VenueEnd.book.Goals as goal

pub returns : goal.returns
returns c s before is = c.book.ensures (journal_in s (venue_after s before)) is.market
