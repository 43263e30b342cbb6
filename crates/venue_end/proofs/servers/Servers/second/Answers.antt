use Rattle.std.proofs.Common.{sym, ◌∙◌, subst}
use Rattle.grp_session.specs.Budget.{Counts, next_second}
use Rattle.venue_end.specs.Came.{second_passed}
use Rattle.venue_end.specs.Stands.{BudgetIs}
use Rattle.venue_end.proofs.servers.Servers.second.Goals as goal

pub returns-in-Ok-clause-stands : goal.returns-in-Ok-clause-stands
returns-in-Ok-clause-stands c = λ s now is. c.in-Ok.ensures.stands s (record now { spent = next_second now.spent }) (record {
  setup_is = is.setup_is;
  budget = record { limits_are = c.tick.ensures.limits ∙ is.budget.limits_are; counted = c.tick.ensures.spent now.spent is.budget.counted };
  proxies = is.proxies;
  spins = is.spins;
})

pub returns-in-Err-clause-err : goal.returns-in-Err-clause-err
returns-in-Err-clause-err c = λ s now is. c.clear.ensures s (second_passed s now) (c.tick_servers.ensures.setup ∙ is.setup_is)
    (subst (λ (b : Counts). BudgetIs s b (next_second now.spent)) (sym c.tick_servers.ensures.budget)
    (record { limits_are = c.tick.ensures.limits ∙ is.budget.limits_are; counted = c.tick.ensures.spent now.spent is.budget.counted }))
