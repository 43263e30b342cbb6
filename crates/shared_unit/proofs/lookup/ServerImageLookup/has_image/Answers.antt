use Rattle.shared_unit.proofs.Looking.{serves_at}
use Rattle.shared_unit.proofs.lookup.ServerImageLookup.has_image.Goals as goal

pub returns-clause-sees : goal.returns-clause-sees
returns-clause-sees g c = λ v is. serves_at _ _ v c.serves.ensures.later is c.args.sequence c.serves.result c.serves.ensures.answer
