use Rattle.std.proofs.Common.{arith}
use Rattle.venue_core.proofs.PlanLeft.{plan_leaves, plan_leaves_many, plan_leaves_shares}
use Rattle.venue_core.proofs.plan.plan_leaves_its_orders.Goals as goal

pub returns-clause-orders : goal.returns-clause-orders
returns-clause-orders c number unit rounds low = plan_leaves number unit rounds (omega (arith, low))

pub returns-clause-count : goal.returns-clause-count
returns-clause-count c number unit rounds low = plan_leaves_many number unit rounds (omega (arith, low))

pub returns-clause-shares : goal.returns-clause-shares
returns-clause-shares c number unit rounds low = plan_leaves_shares number unit rounds (omega (arith, low))
