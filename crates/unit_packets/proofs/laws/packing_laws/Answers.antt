use Rattle.unit_packets.proofs.OnePacking.{packing_is_computed, packing_is_one}
use Rattle.unit_packets.proofs.laws.packing_laws.Goals as goal

pub returns-clause-computed : goal.returns-clause-computed
returns-clause-computed c = packing_is_computed

pub returns-clause-one : goal.returns-clause-one
returns-clause-one c = packing_is_one
