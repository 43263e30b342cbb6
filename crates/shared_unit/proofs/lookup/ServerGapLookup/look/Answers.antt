use Rattle.std.proofs.lemmas.Result.{IfOk-weaker}
use Rattle.shared_unit.proofs.Looking.{looks_at}
use Rattle.shared_unit.proofs.lookup.ServerGapLookup.look.Goals as goal

pub returns-clause-found : goal.returns-clause-found
returns-clause-found g c = IfOk-weaker c.gap.result _ _ (λ found answers v is. looks_at _ _ _ v c.gap.ensures.later is _ _ found _ _ answers) c.gap.ensures.answer
