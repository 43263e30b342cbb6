use Rattle.venue_core.specs.Plan.{plan}
use Rattle.drill_client.specs.layers.Following.{FollowsOn}
use Rattle.unit_threads.proofs.client.hear_to_end.Given as goal

abbrev pub invariant-said : goal.invariant-said
invariant-said g l = FollowsOn l.client 4096 (plan g.R.DrillRun.number g.R.DrillRun.unit g.R.DrillRun.count)
