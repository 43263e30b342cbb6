use Rattle.std.proofs.Common.{Option, None, refl, sym, subst, rules, ◌≡◌}
use Rattle.pitch_messages.specs.declared.order.Order.{Order}
use Rattle.best_quotes.specs.Leveling.{IsOn}
use Rattle.best_quotes.specs.layers.Turning.{Becomes}
use Rattle.best_quotes.proofs.Turning.{turned_none}
use Rattle.best_quotes.proofs.steps.turn_order.Goals as goal

pub returns-in-None-now : goal.returns-in-None-now
returns-in-None-now c = λ old new id becomes.
    turned_none old new id c.args.levels.now.entries c.args.told.now.items
    (subst (λ (o : Option Order). Becomes old new id o None) c.in-None.is (subst (Becomes old new id c.args.before.now) c.in-None-now.is becomes))

pub returns-in_ok-turn_on-in-Some-now : goal.returns-in_ok-turn_on-in-Some-now
returns-in_ok-turn_on-in-Some-now c =
    let order = c.in-Some-now.order in
    c.in_ok-turn_on-in-Some-now.ensures (subst (IsOn order.symbol order.side) (sym c.in-None.is) tt)
    (subst (IsOn order.symbol order.side) (sym c.in-Some-now.is) (refl, refl))

pub returns-in_ok-turn_on-in-None-now-2 : goal.returns-in_ok-turn_on-in-None-now-2
returns-in_ok-turn_on-in-None-now-2 c =
    let order = c.in-Some.order in
    c.in_ok-turn_on-in-None-now-2.ensures (subst (IsOn order.symbol order.side) (sym c.in-Some.is) (refl, refl))
    (subst (IsOn order.symbol order.side) (sym c.in-None-now-2.is) tt)

pub returns-in_ok-turn_on-in-Some-now-2 : goal.returns-in_ok-turn_on-in-Some-now-2
returns-in_ok-turn_on-in-Some-now-2 c =
    let order = c.in-Some.order in
    let other = c.in-Some-now-2.other in
    let symbols : order.symbol ≡ other.symbol = search rules in
    let sides : order.side ≡ other.side = search rules in
    c.in_ok-turn_on-in-Some-now-2.ensures (subst (IsOn order.symbol order.side) (sym c.in-Some.is) (refl, refl))
    (subst (IsOn order.symbol order.side) (sym c.in-Some-now-2.is) (sym symbols, sym sides))
