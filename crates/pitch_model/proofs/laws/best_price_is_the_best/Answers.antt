use Rattle.pitch_model.proofs.Prices.{best-some, best-none}
use Rattle.pitch_model.proofs.laws.best_price_is_the_best.Goals as goal

pub returns-clause-some : goal.returns-clause-some
returns-clause-some c = best-some

pub returns-clause-none : goal.returns-clause-none
returns-clause-none c = best-none
