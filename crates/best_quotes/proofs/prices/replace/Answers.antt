use Rattle.std.proofs.Common.{Some}
use Rattle.best_quotes.proofs.Pricing.{moves_both}
use Rattle.best_quotes.proofs.prices.replace.Goals as goal

pub returns-in_ok-put : goal.returns-in_ok-put
returns-in_ok-put c =
    moves_both (Some c.args.before.now) (Some c.args.now.now) c.args.prices.now c.take.new.prices c.put.new.prices
    c.in_ok-take.ensures c.in_ok-put.ensures
