use Rattle.pitch_model.proofs.Advertising.{accepted_more, advertised_accept, advertised_advertise}
use Rattle.pitch_model.proofs.laws.operations_add_up.Goals as goal

pub returns-clause-accepted : goal.returns-clause-accepted
returns-clause-accepted c = accepted_more

pub returns-clause-accept : goal.returns-clause-accept
returns-clause-accept c = advertised_accept

pub returns-clause-advertise : goal.returns-clause-advertise
returns-clause-advertise c = advertised_advertise
