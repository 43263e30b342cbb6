-- Levels of an empty book, where there are any.
use Rattle.std.proofs.Common.{◌≡◌, ℕ, List, [], Option, Some, None}
use Rattle.std.specs.Option.{IfSome}
use Rattle.indexmap.specs.IndexMap.{IndexMap}
use Rattle.pitch_model.specs.Book.{Book, empty_book}
use Rattle.best_quotes.specs.declared.levels.Sides.{Sides}
use Rattle.best_quotes.proofs.Stepping.{starts_with}
use Rattle.leveled_units.specs.layers.Leveled.{AreLevels}

pub starts_any : {S : Type 0} (levels : Option (IndexMap (List ℕ) Sides S)) (book : Book) → book ≡ empty_book → IfSome levels (λ l. l.entries ≡ []) → AreLevels levels book
starts_any None book e none = none
starts_any (Some l) book e none = starts_with book l.entries e none
