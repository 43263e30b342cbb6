use Rattle.venue_end.specs.Came.{journal_in, venue_after}
use Rattle.venue_end.proofs.venue.VenueEnd.count.Goals as goal

pub returns : goal.returns
returns c s before is = c.count.ensures (journal_in s (venue_after s before)) is.market
