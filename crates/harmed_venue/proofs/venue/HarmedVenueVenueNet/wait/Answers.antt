use Rattle.std.proofs.Common.{List, sym, subst}
use Rattle.venue_net.specs.VenueCalls.{VenueCall}
use Rattle.harmed_venue.specs.layers.Standing.{HarmedStands}
use Rattle.harmed_venue.proofs.Stepping.{after_wait}
use Rattle.harmed_venue.proofs.venue.HarmedVenueVenueNet.wait.Goals as goal

pub invariant_of-self : goal.invariant_of-self
invariant_of-self g c =
    let v = c.self.inside in
    let below = g.N.VenueNet.calls v.net in
    let between = g.N.VenueNet.calls c.wait-answer.new.self in
    let now = g.N.VenueNet.calls c.wait_over.new.net in
    subst (λ (calls : List VenueCall). HarmedStands v.harm c.wait_over.new.self c.wait_over-2.new.self calls now) (sym c.then-self-inside.ensures)
    (after_wait v.harm v.lines v.cuts v.log.calls below c.self.invariant c.args.more c.wait-answer.result c.wait_over.new.self c.wait_over-2.new.self between now
    c.wait-answer.ensures.calls c.wait_over.ensures.lines c.wait_over.ensures.makes
    c.wait_over-2.ensures.every c.wait_over-2.ensures.passed c.wait_over-2.ensures.places)
