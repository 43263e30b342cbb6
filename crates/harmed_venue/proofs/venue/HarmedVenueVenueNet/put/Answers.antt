use Rattle.std.proofs.Common.{Bool, List, sym, ap, ◌∙◌, subst}
use Rattle.venue_net.specs.VenueCalls.{VenueCall}
use Rattle.harmed_venue.specs.Harmed.{told_if}
use Rattle.harmed_venue.specs.layers.Standing.{HarmedStands}
use Rattle.harmed_venue.proofs.Stepping.{after_put}
use Rattle.harmed_venue.proofs.venue.HarmedVenueVenueNet.put.Goals as goal

pub invariant_of-self : goal.invariant_of-self
invariant_of-self g c =
    let v = c.self.inside in
    let below = g.N.VenueNet.calls v.net in
    let now = g.N.VenueNet.calls c.put_unless-answer.new.net in
    let answer = c.put_unless-answer.result in
    subst (λ (calls : List VenueCall). HarmedStands v.harm v.lines c.told_if.new.self calls now) (sym c.then-self-inside.ensures)
    (after_put v.harm v.lines v.cuts v.log.calls below c.self.invariant c.is_cut-cut.result c.args.place c.args.piece.now answer c.told_if.new.self now
    c.is_cut-cut.ensures c.put_unless-answer.ensures.makes c.told_if.ensures.every c.told_if.ensures.passed
    (c.told_if.ensures.places ∙ ap (λ (told : Bool). told_if told c.args.place v.cuts.places.items) c.is_put_ended.ensures))
