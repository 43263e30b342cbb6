use Rattle.std.proofs.lemmas.Result.{on_ok_weaker}
use Rattle.net_edge.proofs.Venues.{plain_whole}
use Rattle.net_edge.proofs.plain.VenueEndVenue.send_whole.Goals as goal

pub returns : goal.returns
returns c = on_ok_weaker c.send_whole.result (plain_whole c.args.self.now c.send_whole.new.venue) c.send_whole.ensures
