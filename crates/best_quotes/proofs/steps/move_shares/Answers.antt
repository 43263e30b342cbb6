use Rattle.best_quotes.proofs.Sided.{moves_then}
use Rattle.best_quotes.proofs.steps.move_shares.Goals as goal

pub returns : goal.returns
returns c =
    moves_then c.args.before.now c.args.now.now c.args.levels.now.entries c.take_order.new.levels.entries c.put_order.new.levels.entries
    c.in_ok-take_order.ensures c.in_ok-put_order.ensures
