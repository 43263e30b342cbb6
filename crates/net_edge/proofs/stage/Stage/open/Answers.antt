use Rattle.std.proofs.lemmas.Result.{on_ok_weaker}
use Rattle.sending_end.specs.Waiting.{made}
use Rattle.world_model.specs.Ends.{at_client, server_made}
use Rattle.net_edge.proofs.Staging.{becomes_then, client_becomes, venue_becomes}
use Rattle.net_edge.proofs.stage.Stage.open.Goals as goal

pub returns : goal.returns
returns g c =
    let is = g.V.Venue.is in
    let old = c.args.self.now in
    on_ok_weaker c.connected.result (λ passes.
    becomes_then (venue_becomes is old c.connect.new.self (server_made c.args.session) c.in_ok-connect.ensures)
    (client_becomes is (record old { venue = c.connect.new.self }) c.connected.new.self (made (at_client c.args.session)) (rw c.at_client.ensures at passes))) c.connected.ensures.passes
