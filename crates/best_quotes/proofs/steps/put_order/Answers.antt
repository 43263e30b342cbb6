use Rattle.std.proofs.Common.{Option, None, refl, sym, subst}
use Rattle.pitch_messages.specs.declared.order.Order.{Order}
use Rattle.best_quotes.specs.Leveling.{IsOn, MovesLevels}
use Rattle.best_quotes.proofs.Sided.{moves_nothing}
use Rattle.best_quotes.proofs.steps.put_order.Goals as goal

pub returns-in_ok-turn_side-in-Some : goal.returns-in_ok-turn_side-in-Some
returns-in_ok-turn_side-in-Some c =
    let order = c.in-Some.come in
    (c.in_ok-turn_side-in-Some.ensures tt (subst (IsOn order.symbol order.side) (sym c.in-Some.is) (refl, refl))).moves

pub returns-in-None : goal.returns-in-None
returns-in-None c =
    let levels = c.args.levels.now.entries in
    subst (λ (o : Option Order). MovesLevels None o levels levels) (sym c.in-None.is) (moves_nothing levels)
