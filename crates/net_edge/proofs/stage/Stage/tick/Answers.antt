use Rattle.client_end.specs.Came as client
use Rattle.venue_end.specs.Came.{Advertised, Second}
use Rattle.net_edge.proofs.Staging.{becomes_then, client_becomes, venue_becomes}
use Rattle.net_edge.proofs.stage.Stage.tick.Goals as goal

pub returns : goal.returns
returns g c =
    let is = g.V.Venue.is in
    let old = c.args.self.now in
    let told = record old { venue = c.advertise.new.self } in
    let served = record told { venue = c.second.new.self } in
    let told_all = becomes_then (venue_becomes is old c.advertise.new.self Advertised c.in_ok-advertise.ensures) (venue_becomes is told c.second.new.self Second c.in_ok-second.ensures) in
    let passed = becomes_then told_all (client_becomes is served c.second-2.new.self client.Second c.in_ok-second-2.ensures.passes) in
    becomes_then (becomes_then passed c.settle.ensures) c.settle-2.ensures
