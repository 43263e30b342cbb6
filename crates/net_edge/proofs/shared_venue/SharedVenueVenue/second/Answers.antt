use Rattle.std.proofs.Common.{refl}
use Rattle.std.proofs.lemmas.Result.{on_ok_weaker}
use Rattle.venue_end.specs.Came.{Second}
use Rattle.net_edge.proofs.SharedEnds.{alone_comes}
use Rattle.net_edge.proofs.shared_venue.SharedVenueVenue.second.Goals as goal

pub returns : goal.returns
returns g c = on_ok_weaker c.second.result (λ comes. record { comes = alone_comes c.args.self.now.unsent.items c.args.self.now.next c.args.self.now.market c.args.self.now.servers c.second.new.self Second (λ now. refl) comes }) c.second.ensures.stands
