use Rattle.shared_unit.proofs.Looking.{newest_at}
use Rattle.shared_unit.proofs.lookup.ServerImageLookup.newest.Goals as goal

pub returns-clause-sees : goal.returns-clause-sees
returns-clause-sees g c = λ v is. newest_at _ _ v c.available.ensures.later is c.available.result c.available.ensures.answer
