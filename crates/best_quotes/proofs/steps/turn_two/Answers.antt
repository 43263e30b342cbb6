use Rattle.best_quotes.proofs.Turning.{turned_two}
use Rattle.best_quotes.proofs.steps.turn_two.Goals as goal

pub returns : goal.returns
returns c = λ of of' old new id becomes.
    turned_two old new id c.args.before.now c.args.now.now c.args.first c.args.second c.args.levels.now.entries c.move_shares.new.levels.entries c.args.told.now.items c.tell_both.new.told.items _
    c.bests_of-bests_first.result c.bests_of.result c.bests_of-bests_second.result c.bests_of-2.result c.requires becomes of of'
    c.bests_of-bests_first.ensures c.bests_of.ensures c.bests_of-bests_second.ensures c.bests_of-2.ensures c.in_ok-move_shares.ensures c.in_ok-tell_both.ensures c.in_ok-tell_both-2.ensures
