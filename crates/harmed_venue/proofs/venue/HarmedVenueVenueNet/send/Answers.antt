use Rattle.std.proofs.Common.{List, sym, subst}
use Rattle.venue_net.specs.VenueCalls.{VenueCall}
use Rattle.harmed_venue.specs.layers.Standing.{HarmedStands}
use Rattle.harmed_venue.proofs.Stepping.{after_send}
use Rattle.harmed_venue.proofs.venue.HarmedVenueVenueNet.send.Goals as goal

pub invariant_of-self : goal.invariant_of-self
invariant_of-self g c =
    let v = c.self.inside in
    let below = g.N.VenueNet.calls v.net in
    let now = g.N.VenueNet.calls c.send.new.net in
    subst (λ (calls : List VenueCall). HarmedStands v.harm c.send.new.self v.cuts calls now) (sym c.then-self-inside.ensures)
    (after_send v.harm v.lines v.cuts v.log.calls below c.self.invariant c.args.line c.args.datagram.now c.send.new.self now
    c.send.ensures.lines c.send.ensures.makes)
