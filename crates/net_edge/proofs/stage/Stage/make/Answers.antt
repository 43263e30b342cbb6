use Rattle.world_model.specs.State.{start}
use Rattle.net_edge.proofs.Starting.{stage_first}
use Rattle.net_edge.proofs.stage.Stage.make.Goals as goal

pub returns-in-Ok-open_both-clause-holds : goal.returns-in-Ok-open_both-clause-holds
returns-in-Ok-open_both-clause-holds g c = c.in-Ok-open_both.ensures.holds start (stage_first g.V.Venue.is _ c.requires (rw c.default_limits.ensures.limits at c.in-Ok.ensures.stands) c.in-Ok.ensures.waits)
