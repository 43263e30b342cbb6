use Rattle.std.proofs.lemmas.Result.{on_ok_weaker}
use Rattle.net_edge.proofs.SharedEnds.{advertises_comes}
use Rattle.net_edge.proofs.shared_venue.SharedVenueVenue.advertise.Goals as goal

pub returns : goal.returns
returns g c = on_ok_weaker c.tell.result (λ tells. record { comes = advertises_comes c.args.self.now.market c.advertise.new.self c.args.self.now.servers c.tell.new.self c.args.self.now.unsent.items c.args.self.now.next c.in_ok-sequence.sequence c.in_ok-sequence.ensures tells }) c.tell.ensures.stands
