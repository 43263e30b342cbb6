use Rattle.std.proofs.Common.{◌≡◌, ◌++◌}
use Rattle.pitch_model.specs.Book.{Book, IsBook}
use Rattle.pitch_model.specs.Levels.{level}
use Rattle.best_quotes.specs.Leveling.{Has}
use Rattle.best_quotes.specs.layers.Turning.{gone}
use Rattle.best_quotes.proofs.clearing.tell_gone.Given as goal

abbrev pub invariant-loop-symbol : goal.invariant-loop-symbol
invariant-loop-symbol l = (book : Book) → IsBook book → Has l.levels.entries (level book)
    → l.told.items ++ gone book l.symbol-iterator ≡ l.initial.told.items ++ gone book l.symbols.keys
