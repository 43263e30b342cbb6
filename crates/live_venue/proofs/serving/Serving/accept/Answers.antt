use Rattle.std.proofs.Common.{refl, true, false}
use Rattle.venue_net.specs.VenueCalls.{Accept}
use Rattle.venue_turns.specs.declared.due.Due.TheVariants as to
use Rattle.live_venue.proofs.Bringing.{lets_in}
use Rattle.live_venue.proofs.Going.{calls_on, goes_keeping, goes_quietly, let_in_keeps}
use Rattle.live_venue.proofs.serving.Serving.accept.Goals as goal

pub returns-then-accept-clause-goes : goal.returns-then-accept-clause-goes
returns-then-accept-clause-goes g c = λ s start about.
    let calls = g.N.VenueNet.calls c.args.net.now in
    let v = c.args.self.now in
    let call = Accept c.args.place true in
    let became = lets_in s c.args.place v.outbox about.now v.units c.connect-connected.new.self c.connect-connected.result c.connect-connected.ensures.stands c.connect-connected.ensures.err about.stands.serve in
    goes_keeping s start calls v (to.Accept c.args.place) about call refl (g.N.VenueNet.calls c.accept.new.self) c.if-accept.ensures.calls became.0
    (calls_on s start calls v (to.Accept c.args.place) about call refl became.0 became.1.0 tt) tt refl (record v { turns = c.let_in.new.self; units = c.connect-connected.new.self }) c.let_in.ensures
    (let_in_keeps c.args.place about.now became.0 became.1.0) refl became.1.1

pub returns-else-accept-clause-goes : goal.returns-else-accept-clause-goes
returns-else-accept-clause-goes g c = λ s start about.
    let calls = g.N.VenueNet.calls c.args.net.now in
    let v = c.args.self.now in
    let call = Accept c.args.place false in
    goes_quietly s start calls v (to.Accept c.args.place) about call refl (g.N.VenueNet.calls c.accept.new.self) c.if-accept.ensures.calls
    (calls_on s start calls v (to.Accept c.args.place) about call refl about.now refl tt) tt refl c.nobody_came.new.self c.nobody_came.ensures
