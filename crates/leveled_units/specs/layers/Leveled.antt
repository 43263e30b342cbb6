-- Levels that are laid from orders, and levels that may have gone.
use Rattle.std.specs.Prelude.{ℕ, List, Option, IfSome, sum_by}
use Rattle.pitch_fields.specs.declared.side.Side.{Side}
use Rattle.pitch_messages.specs.declared.order.Order.{Order}
use Rattle.indexmap.specs.IndexMap.{IndexMap}
use Rattle.pitch_model.specs.Book.{Book}
use Rattle.pitch_model.specs.Levels.{level}
use Rattle.best_quotes.specs.Balance.{shares_at}
use Rattle.best_quotes.specs.Leveling.{Has}
use Rattle.best_quotes.specs.declared.levels.Sides.{Sides}

-- the shares of all of some orders
abbrev pub shares_among : List Order → List ℕ → Side → ℕ → ℕ
shares_among orders symbol side price = sum_by (shares_at symbol side price) orders

-- levels that may have gone are those of a book, where they are there
abbrev pub AreLevels : {S : Type 0} → Option (IndexMap (List ℕ) Sides S) → Book → Type 0
AreLevels levels book = IfSome levels (λ levels. Has levels.entries (level book))
