use Rattle.venue_core.proofs.PlanBooks.{plan_length}
use Rattle.venue_core.proofs.PlanBytes.{plan_at_place, plan_prefix, plan_bytes}
use Rattle.venue_core.proofs.plan.plan_is_in_order.Goals as goal

pub returns-clause-count : goal.returns-clause-count
returns-clause-count c = plan_length

pub returns-clause-each : goal.returns-clause-each
returns-clause-each c = plan_at_place

pub returns-clause-prefix : goal.returns-clause-prefix
returns-clause-prefix c = plan_prefix

pub returns-clause-bytes : goal.returns-clause-bytes
returns-clause-bytes c = plan_bytes
