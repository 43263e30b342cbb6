use Rattle.live_venue.proofs.Ending.{ends_none, ends_same}
use Rattle.live_venue.proofs.service.serve.Goals as goal

pub returns-in_err-serving-clause-ends : goal.returns-in_err-serving-clause-ends
returns-in_err-serving-clause-ends g c = ends_same c.args.setup.now c.from_residual.result _ (g.N.VenueNet.calls c.args.net.now) (g.N.VenueNet.calls c.args.net.now) c.from_residual.ensures (ends_none c.args.setup.now (g.N.VenueNet.calls c.args.net.now))

pub returns-clause-ends : goal.returns-clause-ends
returns-clause-ends g c = (c.run.ensures.ends (g.N.VenueNet.calls c.args.net.now) (c.in_ok-serving.ensures (g.N.VenueNet.calls c.args.net.now))).ends
