use Rattle.std.proofs.lemmas.Result.{IfOk-weaker}
use Rattle.shared_unit.proofs.Looking.{finds_at}
use Rattle.shared_unit.proofs.lookup.ServerGapLookup.find.Goals as goal

pub returns-clause-found : goal.returns-clause-found
returns-clause-found g c = IfOk-weaker c.found.result _ _ (λ found answer v is. finds_at _ _ _ v c.found.ensures.later is _ _ found answer) c.found.ensures.answer
