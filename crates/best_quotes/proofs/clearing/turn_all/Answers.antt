use Rattle.best_quotes.proofs.Gone.{turned_all}
use Rattle.best_quotes.proofs.clearing.turn_all.Goals as goal

pub returns : goal.returns
returns c = λ old new gone is is' has.
    turned_all old new gone is is' c.args.levels.now.entries c.truncate.new.self.entries c.in_ok-symbols.symbols c.args.told.now.items c.tell_gone.new.told.items has c.in_ok-symbols.ensures c.tell_gone.ensures.ordered
    (c.in_ok-tell_gone.ensures.told old is has) c.truncate.ensures.entries
