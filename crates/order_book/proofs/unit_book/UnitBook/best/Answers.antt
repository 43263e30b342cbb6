use Rattle.std.proofs.Common.{◌≡◌, ℕ, List, [], Option, None, Some, sym, ap, ◌∙◌}
use Rattle.std.specs.Option.{IfSome, IfNone}
use Rattle.pitch_fields.specs.declared.side.Side.{Side}
use Rattle.pitch_model.specs.Book.{Book}
use Rattle.pitch_model.specs.Levels.{best, level, prices_on, orders_on, IsBestOf}
use Rattle.pitch_model.proofs.Prices.{best-some, best-none}
use Rattle.order_book.specs.Standing.{Standing}
use Rattle.order_book.proofs.AnyOrder.{best_of_entries}
use Rattle.order_book.proofs.unit_book.UnitBook.best.Goals as goal

price_is_best : (book : Book) (symbol : List ℕ) (side : Side) (o : Option (ℕ × ℕ)) → o ≡ best book symbol side → IfSome o (λ best. IsBestOf side (prices_on book symbol side) best.0)
price_is_best book symbol side None e = tt
price_is_best book symbol side (Some b) e = (best-some book symbol side b.0 b.1 (sym e)).0

shares_are_its : (book : Book) (symbol : List ℕ) (side : Side) (o : Option (ℕ × ℕ)) → o ≡ best book symbol side → IfSome o (λ best. best.1 ≡ level book symbol side best.0)
shares_are_its book symbol side None e = tt
shares_are_its book symbol side (Some b) e = (best-some book symbol side b.0 b.1 (sym e)).1

none_is_empty : (book : Book) (symbol : List ℕ) (side : Side) (o : Option (ℕ × ℕ)) → o ≡ best book symbol side → IfNone o (orders_on book symbol side ≡ [])
none_is_empty book symbol side None e = best-none book symbol side (sym e)
none_is_empty book symbol side (Some b) e = tt

pub returns-clause-best : goal.returns-clause-best
returns-clause-best c =
    c.best_level.ensures
    ∙ best_of_entries c.self.inside.second c.self.inside.orders.entries c.self.inside.statuses.statuses c.args.symbol c.args.side c.self.invariant.unique
    ∙ ap (λ (s : Standing). best s.book c.args.symbol c.args.side) c.self.view_is

pub returns-clause-price : goal.returns-clause-price
returns-clause-price c = price_is_best c.args.self.now.book c.args.symbol c.args.side c.best_level.result (returns-clause-best c)

pub returns-clause-level : goal.returns-clause-level
returns-clause-level c = shares_are_its c.args.self.now.book c.args.symbol c.args.side c.best_level.result (returns-clause-best c)

pub returns-clause-none : goal.returns-clause-none
returns-clause-none c = none_is_empty c.args.self.now.book c.args.symbol c.args.side c.best_level.result (returns-clause-best c)
