use Rattle.std.proofs.lemmas.Result.{IfOk-weaker}
use Rattle.shared_unit.proofs.Looking.{packs_at}
use Rattle.shared_unit.proofs.lookup.ServerGapLookup.pack.Goals as goal

pub returns-clause-found : goal.returns-clause-found
returns-clause-found g c = IfOk-weaker c.packed.result _ _ (λ found answers v is. packs_at _ _ _ v c.packed.ensures.later is _ _ _ found _ _ answers) c.packed.ensures.answer
