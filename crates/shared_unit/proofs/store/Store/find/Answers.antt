use Rattle.std.proofs.Common.{◌≡◌, List, subst}
use Rattle.pitch_model.specs.Advertising.{Operation}
use Rattle.gap_store.specs.Look.{store_of}
use Rattle.shared_unit.specs.layers.Histories.{kept_at}
use Rattle.shared_unit.proofs.store.Store.find.Goals as goal

pub returns : goal.returns
returns g c = c.found.ensures.found _ (subst (λ (h : List Operation). c.self.inside.shelves.gaps ≡ store_of (kept_at g.J.Naming.kept h)) c.self.view_is c.self.invariant.gaps_are)
