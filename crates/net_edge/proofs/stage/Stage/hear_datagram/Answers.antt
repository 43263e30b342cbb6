use Rattle.unit_packets.specs.Cutting.{blocks_of}
use Rattle.net_edge.proofs.Staging.{hears_becomes}
use Rattle.net_edge.proofs.stage.Stage.hear_datagram.Goals as goal

pub returns : goal.returns
returns g c = λ line. hears_becomes g.V.Venue.is line c.args.self.now c.hear_datagram.new.self (blocks_of c.args.datagram.now) c.in_ok-hear_datagram.ensures.hears
