use Rattle.std.proofs.Common.{ℕ, List, ap, ◌∙◌, subst, is_some}
use Rattle.session_ends.specs.layers.Hearing.{Saying, IsThrough}
use Rattle.session_ends.proofs.Through.{through}
use Rattle.session_ends.proofs.sayings.Sayings.finish.Goals as goal

pub returns : goal.returns
returns c = subst (λ (bytes : List ℕ). IsThrough bytes c.self.inside.passed) (ap (λ (s : Saying). s.bytes) c.self.view_is ∙ c.in_default.ensures.bytes ∙ c.left.invariant)
    (through c.self.inside.bytes.now c.self.inside.passed c.self.inside.stop c.self.invariant (ap (λ (s : Saying). is_some s.stop) c.self.view_is ∙ c.in_default.ensures.says.1))
