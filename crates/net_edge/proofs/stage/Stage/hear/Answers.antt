use Rattle.std.proofs.Common.{ℕ, List, take}
use Rattle.sending_end.specs.Waiting.{ended, took}
use Rattle.world_model.specs.Ends.{at_client, server_cut}
use Rattle.net_edge.proofs.Staging.{becomes_then, client_becomes, venue_becomes}
use Rattle.net_edge.proofs.stage.Stage.hear.Goals as goal

pub returns-in_ok-took-in-Got : goal.returns-in_ok-took-in-Got
returns-in_ok-took-in-Got g c =
    let piece : List ℕ = take c.in-Got.count c.args.into.now in
    rw c.in-Got.is (becomes_then (client_becomes g.V.Venue.is c.args.self.now c.took.new.self (took (at_client c.args.session) piece) (rw c.at_client-end.ensures at c.in_ok-took-in-Got.ensures.passes)) c.settle.ensures)

pub returns-in-End : goal.returns-in-End
returns-in-End g c =
    let is = g.V.Venue.is in
    let old = c.args.self.now in
    rw c.in-End.is (becomes_then (venue_becomes is old c.cut.new.self (server_cut c.args.session) c.cut.ensures)
    (client_becomes is (record old { venue = c.cut.new.self }) c.cut-in-End.new.self (ended (at_client c.args.session)) (rw c.at_client-end.ensures at c.cut-in-End.ensures)))
