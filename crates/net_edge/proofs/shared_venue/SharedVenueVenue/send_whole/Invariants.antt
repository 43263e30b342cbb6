use Rattle.std.proofs.Common.{◌+◌, cond}
use Rattle.venue_end.specs.Feeding.{left_in}
use Rattle.world_model.specs.Ends.{the_session}
use Rattle.world_model.specs.State.{State}
use Rattle.net_edge.specs.layers.Shared.{SharedIs}
use Rattle.net_edge.proofs.SharedEnds.{Pumping}
use Rattle.net_edge.proofs.shared_venue.SharedVenueVenue.send_whole.Given as goal

abbrev pub invariant-loop-more : goal.invariant-loop-more
invariant-loop-more g l = (w : State) → SharedIs l.initial.self.market l.initial.self.servers l.initial.self.unsent.items l.initial.self.next w.venue → Pumping w l.self.market l.self.servers l.self.unsent.items l.self.next l.more

abbrev pub decreases-loop-more : goal.decreases-loop-more
decreases-loop-more g l = cond l.more (left_in the_session l.self.servers.spins.places.items + 1) 0
