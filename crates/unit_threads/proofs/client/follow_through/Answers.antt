use Rattle.std.proofs.Common.{◌≤◌, ℕ, List, subst, arith}
use Rattle.pitch_model.specs.History.{Raw}
use Rattle.venue_core.specs.Plan.{plan}
use Rattle.drill_client.specs.layers.Following.{FollowsOn}
use Rattle.unit_threads.proofs.client.follow_through.Goals as goal

pub hear_to_end-requires : goal.hear_to_end-requires
hear_to_end-requires g c =
    let few : g.R.DrillRun.count ≤ 400000 = omega (arith, c.args.course.now.count_is, c.args.course.now.most.1) in
    let all : List Raw = plan g.R.DrillRun.number g.R.DrillRun.unit g.R.DrillRun.count in
    subst (λ (H : ℕ). FollowsOn c.in_ok-client.client H all) c.drill_hold.ensures
    (_, c.in_ok-client.ensures all (c.plan_is_in_order.ensures.bytes g.R.DrillRun.number g.R.DrillRun.unit g.R.DrillRun.count few))
