use Rattle.best_quotes.proofs.Besting.{nearest_is_best}
use Rattle.best_quotes.proofs.levels.best_level.Goals as goal

pub returns : goal.returns
returns c = λ book is has.
    nearest_is_best c.args.levels.now.entries c.args.symbol c.args.side book is has c.nearest.result c.nearest.ensures
