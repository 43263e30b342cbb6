use Rattle.std.proofs.Common.{ℕ, List, ap, ◌∙◌}
use Rattle.live_units.specs.Ended.{have_ended}
use Rattle.live_recovery.proofs.recovering.Recovering.are_ended.Goals as goal

pub returns : goal.returns
returns c = λ start written came st.
    let listens = c.args.setup.now.listens in
    c.have_ended.ensures written listens start came st ∙ ap (λ (units : List ℕ). have_ended listens units came) c.units.ensures
