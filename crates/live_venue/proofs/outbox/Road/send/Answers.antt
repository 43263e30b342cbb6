use Rattle.std.proofs.Common.{[], ◌∷◌, List, ℕ, sym, subst}
use Rattle.live_venue.specs.Sending.{to_line}
use Rattle.live_venue.specs.Standing.{Sends, on_road}
use Rattle.live_venue.specs.declared.outbox.Road.{Road}
use Rattle.live_venue.proofs.Calls.{sends_more, sends_one}
use Rattle.live_venue.proofs.outbox.Road.send.Goals as goal

pub returns-in-Both-clause-sends : goal.returns-in-Both-clause-sends
returns-in-Both-clause-sends g c =
    let datagram : List ℕ = c.args.datagram.now in
    let x = g.N.VenueNet.calls c.args.net.now in
    let y = g.N.VenueNet.calls c.send.new.self in
    let z = g.N.VenueNet.calls c.send-in-Both.new.self in
    subst (λ (road : Road). Sends x z (on_road road datagram)) (sym c.in-Both.is)
    (sends_more x y z (to_line c.in-Both.a datagram ∷ []) (to_line c.in-Both.b datagram ∷ []) (sends_one x y c.in-Both.a datagram c.send.ensures.calls) (sends_one y z c.in-Both.b datagram c.send-in-Both.ensures.calls))

pub returns-in-Gap-clause-sends : goal.returns-in-Gap-clause-sends
returns-in-Gap-clause-sends g c =
    let datagram : List ℕ = c.args.datagram.now in
    let x = g.N.VenueNet.calls c.args.net.now in
    let y = g.N.VenueNet.calls c.send-in-Gap.new.self in
    subst (λ (road : Road). Sends x y (on_road road datagram)) (sym c.in-Gap.is) (sends_one x y c.in-Gap.line datagram c.send-in-Gap.ensures.calls)
