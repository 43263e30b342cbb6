use Rattle.std.proofs.Common.{◌≡◌, ◌+◌, List, drop}
use Rattle.order_book.specs.Turns.{turns_of}
use Rattle.pitch_model.specs.Book.{Book, IsBook}
use Rattle.pitch_model.specs.History.{Raw}
use Rattle.pitch_model.specs.Levels.{level}
use Rattle.best_quotes.specs.Leveling.{Has}
use Rattle.best_quotes.proofs.Leaving.{IsLeft}
use Rattle.best_quotes.proofs.lines.turn_each.Given as goal

abbrev pub invariant-messages : goal.invariant-messages
invariant-messages l = record {
  left : (book : Book) (raws : List Raw) → IsBook book → l.turns ≡ turns_of book raws → Has l.fn.levels.entries (level book)
      → IsLeft (l.fn.reach + 1) book raws l.fn.lines.items (l.sequence + 1) (drop l.turn-index l.turns) l.levels.entries l.lines.items;
  at : l.sequence ≡ l.fn.reach + l.turn-index;
}
