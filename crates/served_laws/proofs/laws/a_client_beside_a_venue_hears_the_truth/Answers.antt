use Rattle.served_laws.proofs.Beside.{beside_comes_from, beside_is_honest, beside_is_whole, beside_stays, handed_out_are_pieces}
use Rattle.served_laws.proofs.laws.a_client_beside_a_venue_hears_the_truth.Goals as goal

pub returns-clause-pieces : goal.returns-clause-pieces
returns-clause-pieces c = handed_out_are_pieces

pub returns-clause-comes : goal.returns-clause-comes
returns-clause-comes c = beside_comes_from

pub returns-clause-honest : goal.returns-clause-honest
returns-clause-honest c = beside_is_honest

pub returns-clause-whole : goal.returns-clause-whole
returns-clause-whole c = beside_is_whole

pub returns-clause-stays : goal.returns-clause-stays
returns-clause-stays c = beside_stays
