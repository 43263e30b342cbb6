use Rattle.std.proofs.Common.{arith}
use Rattle.std.proofs.lemmas.Grind.{common_steps}
use Rattle.best_quotes.proofs.Gone.{has_symbol}
use Rattle.best_quotes.proofs.clearing.symbols_of.Goals as goal

pub returns : goal.returns
returns c = λ symbol side price some.
    let there = has_symbol c.args.levels.now.entries symbol side price some in
    let before = c.loop-symbol.invariant symbol in
    grind (arith, common_steps, there, before)
