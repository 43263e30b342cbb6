use Rattle.unit_packets.proofs.OneCutting.{cuts_are_computed, cuts_are_one}
use Rattle.unit_packets.proofs.laws.cutting_laws.Goals as goal

pub returns-clause-computed : goal.returns-clause-computed
returns-clause-computed c = cuts_are_computed

pub returns-clause-one : goal.returns-clause-one
returns-clause-one c = cuts_are_one
