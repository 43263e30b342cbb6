use Rattle.std.proofs.Common.{◌+◌, cond}
use Rattle.venue_end.specs.Feeding.{left_at}
use Rattle.venue_end.specs.Stands.{OfVenue}
use Rattle.world_model.specs.Ends.{the_session}
use Rattle.world_model.proofs.Pumping.{Pumping}
use Rattle.world_model.proofs.venue.send_whole.Given as goal

abbrev pub invariant-loop-more : goal.invariant-loop-more
invariant-loop-more l = OfVenue l.initial.venue (λ s before. Pumping s before l.venue l.more)

abbrev pub decreases-loop-more : goal.decreases-loop-more
decreases-loop-more l = cond l.more (left_at the_session l.venue + 1) 0
