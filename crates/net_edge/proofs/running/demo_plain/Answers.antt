use Rattle.net_edge.specs.Due.{setting}
use Rattle.net_edge.proofs.Ending.{demo_unbegun}
use Rattle.net_edge.proofs.Sending.{sends_nothing, sends_pieces}
use Rattle.net_edge.proofs.Venues.{plain_first}
use Rattle.net_edge.proofs.running.demo_plain.Goals as goal

pub demo_at-requires-clause-new : goal.demo_at-requires-clause-new
demo_at-requires-clause-new g c = plain_first c.in_ok-venue.venue (rw (c.venue_setup.ensures, c.default_limits.ensures.limits) at c.in_ok-venue.ensures.stands)

pub returns-clause-pieces : goal.returns-clause-pieces
returns-clause-pieces g c = sends_pieces (setting c.args.number c.args.count) _ _ _ _ c.demo_at.result c.demo_at.ensures.ran c.demo_at.ensures.broke

pub returns-in_err-venue-clause-does : goal.returns-in_err-venue-clause-does
returns-in_err-venue-clause-does g c = demo_unbegun _ _ _ _ _ c.from_residual.ensures

pub returns-in_err-venue-clause-pieces : goal.returns-in_err-venue-clause-pieces
returns-in_err-venue-clause-pieces g c = sends_nothing (setting c.args.number c.args.count) (g.N.Net.calls c.args.net.now)
