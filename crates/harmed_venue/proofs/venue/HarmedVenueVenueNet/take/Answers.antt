use Rattle.std.proofs.Common.{◌≡◌, ℕ, Bool, List, ◌∷◌, length, sym, ap, ◌∙◌, subst}
use Rattle.venue_net.specs.VenueCalls.{VenueCall, Take}
use Rattle.live_net.specs.LiveCalls.{taken_in}
use Rattle.harmed_venue.specs.Harmed.{told_if}
use Rattle.harmed_venue.specs.layers.Standing.{HarmedStands}
use Rattle.harmed_venue.proofs.Stepping.{after_take}
use Rattle.harmed_venue.proofs.venue.HarmedVenueVenueNet.take.Goals as goal

pub invariant_of-self : goal.invariant_of-self
invariant_of-self g c =
    let v = c.self.inside in
    let below = g.N.VenueNet.calls v.net in
    let now = g.N.VenueNet.calls c.take_unless-answer.new.net in
    let answer = c.take_unless-answer.result in
    let bytes = taken_in answer c.take_unless-answer.new.into in
    let room : ℕ = length c.args.into.now in
    let noted : List ℕ → ℕ → List VenueCall = λ bs n. Take c.args.place n bs answer ∷ v.log.calls in
    let is : c.then-self-inside.result.calls ≡ noted bytes room =
    c.then-self-inside.ensures ∙ ap (λ (n : ℕ). noted c.taken_bytes.result.now n) c.take_unless-answer.auto.into ∙ ap (λ (bs : List ℕ). noted bs room) c.taken_bytes.ensures in
    subst (λ (calls : List VenueCall). HarmedStands v.harm v.lines c.told_if.new.self calls now) (sym is)
    (after_take v.harm v.lines v.cuts v.log.calls below c.self.invariant c.is_cut-cut.result c.args.place (length c.args.into.now) (taken_in answer c.take_unless-answer.new.into) answer c.told_if.new.self now
    c.is_cut-cut.ensures c.take_unless-answer.ensures.makes c.told_if.ensures.every c.told_if.ensures.passed
    (c.told_if.ensures.places ∙ ap (λ (told : Bool). told_if told c.args.place v.cuts.places.items) c.is_taken_ended.ensures))
