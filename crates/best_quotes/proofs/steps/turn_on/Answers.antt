use Rattle.best_quotes.proofs.Turning.{turned_side}
use Rattle.best_quotes.proofs.steps.turn_on.Goals as goal

pub returns : goal.returns
returns c = λ on on'.
    turned_side c.args.symbol c.args.side c.args.before.now c.args.now.now c.args.levels.now.entries c.turn_side.new.levels.entries
    c.args.told.now.items c.tell.new.told.items c.in_ok-bests.bests on on' (c.in_ok-bests.ensures on on') c.in_ok-tell.ensures
