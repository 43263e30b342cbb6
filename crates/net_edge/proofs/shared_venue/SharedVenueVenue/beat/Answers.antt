use Rattle.net_edge.proofs.SharedEnds.{beat_hands}
use Rattle.net_edge.proofs.shared_venue.SharedVenueVenue.beat.Goals as goal

pub returns : goal.returns
returns g c = λ now is. beat_hands c.args.self.now.market c.args.self.now.servers c.args.self.now.unsent.items c.args.self.now.next now is c.packed_messages_are_pieces.ensures.heartbeat c.heartbeat.result c.heartbeat.ensures.bytes
