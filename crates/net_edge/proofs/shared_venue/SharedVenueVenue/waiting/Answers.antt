use Rattle.net_edge.specs.layers.Ends.{demo_venue}
use Rattle.net_edge.proofs.shared_venue.SharedVenueVenue.waiting.Goals as goal

pub returns-in-Grp : goal.returns-in-Grp
returns-in-Grp g c = rw c.in-Grp.is (λ now is. c.said_by_proxy.ensures demo_venue now is.are)

pub returns-in-Spin : goal.returns-in-Spin
returns-in-Spin g c = rw c.in-Spin.is (λ now is. c.said_by_spin.ensures demo_venue now is.are)
