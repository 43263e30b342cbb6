use Rattle.std.proofs.Common.{rules, ◌<◌, length}
use Rattle.std.proofs.lemmas.Option.{slice_get-get_or}
use Rattle.venue_units.proofs.Making.{made_more}
use Rattle.venue_units.proofs.units.VenueUnits.make.Goals as goal

pub setups-preserved : goal.setups-preserved
setups-preserved c =
    let lt : c.setups.setup-index < length c.args.setups.now = search rules in
    made_more c.args.setups.now c.setups.setup-index c.setups.ends.items c.push.new.self.items _ c.in_ok-make.field-0 c.setups.invariant (slice_get-get_or c.args.setups.now c.setups.setup-index _ lt) c.in_ok-make.ensures.stands c.in_ok-push.ensures.items
