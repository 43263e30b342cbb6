use Rattle.std.proofs.Common.{◌≡◌, List, subst}
use Rattle.std.proofs.lemmas.Result.{IfOk-weaker}
use Rattle.pitch_model.specs.Advertising.{Operation}
use Rattle.gap_store.specs.Look.{store_of}
use Rattle.shared_unit.specs.layers.Histories.{kept_at}
use Rattle.shared_unit.proofs.store.Store.look.Goals as goal

pub returns-clause-answer : goal.returns-clause-answer
returns-clause-answer g c =
    let is = subst (λ (h : List Operation). c.self.inside.shelves.gaps ≡ store_of (kept_at g.J.Naming.kept h)) c.self.view_is c.self.invariant.gaps_are in
    IfOk-weaker c.copy_range.result _ _ (λ found answers. answers (kept_at g.J.Naming.kept c.args.self.now) is) c.copy_range.ensures.found
