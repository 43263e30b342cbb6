use Rattle.std.proofs.Common.{sym, subst}
use Rattle.pitch_model.specs.Book.{Book}
use Rattle.best_quotes.specs.layers.Turning.{Turns}
use Rattle.best_quotes.proofs.Stepping.{is_book_after}
use Rattle.best_quotes.proofs.step.apply.Goals as goal

pub returns-clause-turns : goal.returns-clause-turns
returns-clause-turns c =
    subst (λ (b : Book). Turns c.args.book.now.book b c.args.levels.now.entries c.turn_levels.new.levels.entries c.args.told.now.items c.turn_levels.new.told.items) (sym c.in_ok-turn.ensures.ok)
    (c.in_ok-turn_levels.ensures c.args.book.now.book c.args.raw.now c.in_ok-turn.ensures.turn)

pub returns-clause-is_book : goal.returns-clause-is_book
returns-clause-is_book c = is_book_after c.args.book.now.book c.turn_bytes.new.self.book c.args.raw.now c.in_ok-turn.ensures.ok

pub returns-in_err-turn_levels-clause-is_book : goal.returns-in_err-turn_levels-clause-is_book
returns-in_err-turn_levels-clause-is_book c = is_book_after c.args.book.now.book c.turn_bytes.new.self.book c.args.raw.now c.in_ok-turn.ensures.ok
