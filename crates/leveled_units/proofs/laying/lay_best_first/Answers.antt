use Rattle.leveled_units.proofs.Rising.{tells_empty}
use Rattle.leveled_units.proofs.laying.lay_best_first.Goals as goal

pub returns-then-is_none-clause-levels : goal.returns-then-is_none-clause-levels
returns-then-is_none-clause-levels c =
    tells_empty c.args.book.now.book c.len-orders.ensures.book c.args.symbol c.args.side c.best.result c.best.ensures.best c.if-is_none.ensures c.args.most c.args.out.now.items
