use Rattle.best_quotes.proofs.Stepping.{starts}
use Rattle.best_quotes.proofs.ladder.Ladder.make.Goals as goal

pub invariant_of-result : goal.invariant_of-result
invariant_of-result c = starts c.make.result.book c.new.result.entries c.make.ensures c.new.ensures.empty
