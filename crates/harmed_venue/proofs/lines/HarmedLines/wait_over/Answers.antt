use Rattle.std.proofs.Common.{sym, ap}
use Rattle.live_net.specs.declared.live.WaitEnd.{WaitEnd}
use Rattle.harmed_venue.specs.Harmed.{all_held_if, lets_go}
use Rattle.harmed_venue.proofs.Calling.{makes_as}
use Rattle.harmed_venue.proofs.lines.HarmedLines.wait_over.Goals as goal

pub returns-in-Second-clause-makes : goal.returns-in-Second-clause-makes
returns-in-Second-clause-makes g c =
    makes_as (g.N.VenueNet.calls c.args.net.now) (g.N.VenueNet.calls c.let_go.new.net) _ _
    (ap (λ (answer : WaitEnd). all_held_if (lets_go answer) c.args.self.now) (sym c.in-Second.is)) c.let_go.ensures.makes

pub returns-in-Over-clause-makes : goal.returns-in-Over-clause-makes
returns-in-Over-clause-makes g c =
    makes_as (g.N.VenueNet.calls c.args.net.now) (g.N.VenueNet.calls c.let_go-in-Over.new.net) _ _
    (ap (λ (answer : WaitEnd). all_held_if (lets_go answer) c.args.self.now) (sym c.in-Over.is)) c.let_go-in-Over.ensures.makes
