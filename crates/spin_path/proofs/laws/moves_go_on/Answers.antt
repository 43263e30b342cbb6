use Rattle.client_links.proofs.Spare.{spare_is_unheard}
use Rattle.spin_path.proofs.Moves.{moves_stay, all_are_taken}
use Rattle.spin_path.proofs.laws.moves_go_on.Goals as goal

pub returns-clause-stay : goal.returns-clause-stay
returns-clause-stay c = moves_stay

pub returns-clause-taken : goal.returns-clause-taken
returns-clause-taken c = all_are_taken

pub returns-clause-spare : goal.returns-clause-spare
returns-clause-spare c = spare_is_unheard
