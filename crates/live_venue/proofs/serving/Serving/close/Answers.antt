use Rattle.std.proofs.Common.{refl}
use Rattle.std.proofs.lemmas.Bool.{eq-eqb}
use Rattle.venue_net.specs.VenueCalls.{Close}
use Rattle.venue_turns.specs.declared.due.Due.TheVariants as to
use Rattle.live_venue.proofs.Going.{calls_on, goes_keeping, left_keeps}
use Rattle.live_venue.proofs.serving.Serving.close.Goals as goal

pub returns-clause-goes : goal.returns-clause-goes
returns-clause-goes g c = λ s start about.
    let calls = g.N.VenueNet.calls c.args.net.now in
    let call = Close c.args.place in
    let became = c.end.ensures.goes s about.now about.stands.serve about.stands.idle.sent in
    goes_keeping s start calls c.args.self.now (to.Close c.args.place) about call refl (g.N.VenueNet.calls c.close.new.self) c.close.ensures.calls became.0
    (calls_on s start calls c.args.self.now (to.Close c.args.place) about call refl became.0 became.1.0 tt) tt refl c.end.new.self (c.end.ensures.turns call (eq-eqb c.args.place c.args.place refl))
    (left_keeps c.args.place about.now became.0 became.1.0) c.end.ensures.reader became.1.1
