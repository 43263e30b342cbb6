use Rattle.std.proofs.lemmas.Result.{on_ok_weaker}
use Rattle.net_edge.proofs.SharedEnds.{accepts_comes}
use Rattle.net_edge.proofs.shared_venue.SharedVenueVenue.accept.Goals as goal

pub returns : goal.returns
returns g c = on_ok_weaker c.push.result (λ grown. record { comes = accepts_comes c.args.self.now.market c.accept.new.self c.args.self.now.servers c.args.self.now.unsent.items c.push.new.self.items c.args.self.now.next c.args.command.now c.in_ok-raw.raw c.in_ok-raw.ensures.raw c.in_ok-raw.ensures.accepts grown }) c.push.ensures.ok
