use Rattle.best_quotes.proofs.Turning.{turned_one}
use Rattle.best_quotes.proofs.steps.turn_one.Goals as goal

pub returns : goal.returns
returns c = λ of of' old new id becomes.
    turned_one old new id c.args.before.now c.args.now.now c.args.symbol c.args.levels.now.entries c.move_shares.new.levels.entries c.args.told.now.items _ c.bests_of-bests.result c.bests_of.result becomes of of'
    c.bests_of-bests.ensures c.bests_of.ensures c.in_ok-move_shares.ensures c.in_ok-tell_both.ensures
