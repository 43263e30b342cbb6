use Rattle.net_edge.proofs.SharedEnds.{opens}
use Rattle.net_edge.proofs.shared_venue.SharedVenue.open.Goals as goal

pub returns : goal.returns
returns g c = opens c.in_ok-market.market c.make.result c.make-2.result.items c.make-2.ensures c.in_ok-market.ensures (rw (c.venue_setup.ensures, c.default_limits.ensures.limits) at c.make.ensures)
