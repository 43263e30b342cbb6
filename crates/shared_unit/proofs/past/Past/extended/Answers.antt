use Rattle.std.proofs.Common.{◌∙◌, List, ap, sym, subst}
use Rattle.pitch_model.specs.Advertising.{Operation, advertised_by, last_ten}
use Rattle.shared_unit.specs.layers.Histories.{then_done}
use Rattle.shared_unit.specs.layers.Stored.{ComesAfter, operation_of}
use Rattle.shared_unit.proofs.Growing.{served_grows}
use Rattle.shared_unit.proofs.past.Past.extended.Goals as goal

pub invariant_of-result : goal.invariant_of-result
invariant_of-result g c =
    c.served_after-served.ensures ∙ served_grows c.args.what.now c.self.inside.front c.self.inside.served c.self.invariant (subst (λ (h : List Operation). ComesAfter c.args.what.now h) (sym c.self.view_is) c.requires.follows)
    ∙ ap (λ (h : List Operation). last_ten (advertised_by h)) (ap (λ (h : List Operation). then_done h (operation_of c.args.what.now)) c.self.view_is ∙ sym c.requires.ends)
