use Rattle.world_laws.proofs.Finish.{recovery_current, recovery_book}
use Rattle.world_laws.proofs.Reached.{sayable_verbs}
use Rattle.world_laws.proofs.laws.recovery_ends.Goals as goal

pub returns-clause-current : goal.returns-clause-current
returns-clause-current c = λ unit limits done small all. recovery_current unit limits done small (sayable_verbs done all)

pub returns-clause-book : goal.returns-clause-book
returns-clause-book c = λ unit limits done small all. recovery_book unit limits done small (sayable_verbs done all)
