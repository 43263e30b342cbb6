use Rattle.std.proofs.lemmas.Result.{IfOk-weaker}
use Rattle.shared_unit.proofs.Looking.{image_at}
use Rattle.shared_unit.proofs.lookup.ServerImageLookup.image.Goals as goal

pub returns-clause-found : goal.returns-clause-found
returns-clause-found g c = IfOk-weaker c.image.result _ _ (λ imaged answers v is. image_at _ _ v c.image.ensures.later is _ imaged _ _ answers) c.image.ensures.answer
