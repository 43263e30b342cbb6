use Rattle.served_laws.proofs.Putting.{all_is_put, put_is_said, put_stays_said}
use Rattle.served_laws.proofs.laws.what_waits_was_said.Goals as goal

pub returns-clause-all : goal.returns-clause-all
returns-clause-all c = all_is_put

pub returns-clause-said : goal.returns-clause-said
returns-clause-said c = put_is_said

pub returns-clause-stays : goal.returns-clause-stays
returns-clause-stays c = put_stays_said
