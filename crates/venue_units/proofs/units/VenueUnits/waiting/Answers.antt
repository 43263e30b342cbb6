use Rattle.std.proofs.Common.{◌≡◌, []}
use Rattle.venue_units.specs.Places.{unit_of, waits_in}
use Rattle.venue_units.proofs.Standing.{seen_none, seen_there}
use Rattle.venue_units.proofs.units.VenueUnits.waiting.Goals as goal

pub returns-in-None : goal.returns-in-None
returns-in-None c = seen_none c.args.self.now c.unit_of.result (unit_of c.args.place) c.unit_of.ensures c.in-None.ensures.none [] (λ s now. waits_in c.args.place now)

pub returns-in-Some : goal.returns-in-Some
returns-in-Some c = seen_there c.args.self.now c.unit_of.result (unit_of c.args.place) c.unit_of.ensures c.in-Some.end.now c.in-Some.ensures.there.0 c.in-Some.ensures.there.1 [] (λ s now. waits_in c.args.place now) (λ w. c.waiting_at.result.now ≡ w) c.waiting_at.ensures
