use Rattle.std.proofs.Common.{ap, subst, ◌∙◌}
use Rattle.pitch_model.specs.Book.{IsBook}
use Rattle.client_core.specs.Client.{current_book}
use Rattle.leveled_units.proofs.Rising.{tells_empty}
use Rattle.leveled_units.proofs.unit.LeveledUnit.levels_best_first.Goals as goal

pub returns-then-is_none-clause-levels : goal.returns-then-is_none-clause-levels
returns-then-is_none-clause-levels c =
    let is = subst IsBook (c.book-2.ensures.same ∙ ap current_book c.self.view_is) c.len-orders.ensures.book in
    tells_empty (current_book c.args.self.now) is c.args.symbol c.args.side c.best.result c.best.ensures c.if-is_none.ensures c.args.most c.args.out.now.items
