use Rattle.std.proofs.Common.{ℕ, List, ◌++◌, ap, ◌∙◌}
use Rattle.world_model.specs.Printed.{shown_state}
use Rattle.world_model.specs.State.{State}
use Rattle.world_model.specs.Verbs.{state_of}
use Rattle.world_model.specs.declared.limits.Limits.{Limits}
use Rattle.world_model.proofs.Acting.{has_all}
use Rattle.world_model.proofs.world.World.show.Goals as goal

pub returns-in-Ok-clause-shown : goal.returns-in-Ok-clause-shown
returns-in-Ok-clause-shown c = λ unit limits done stands.
    let w = c.args.self.now in
    let s : State = state_of unit limits done in
    let old : List ℕ = c.args.out.now.items in
    c.in-Ok.ensures.shown s (has_all w unit limits done stands)
    ∙ ap (λ (u : ℕ). old ++ shown_state u w.limits s) stands.unit_is ∙ ap (λ (l : Limits). old ++ shown_state unit l s) stands.limits_are
