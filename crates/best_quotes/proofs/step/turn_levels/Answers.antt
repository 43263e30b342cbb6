use Rattle.std.proofs.Common.{sym, ◌∙◌}
use Rattle.pitch_model.specs.Book.{after}
use Rattle.best_quotes.proofs.Stepping.{turn_none, turn_one, turn_gone}
use Rattle.best_quotes.proofs.Turning.{turned_still}
use Rattle.best_quotes.proofs.step.turn_levels.Goals as goal

pub returns-in-None : goal.returns-in-None
returns-in-None c = λ book raw is. turned_still book (after book raw) c.args.levels.now.entries c.args.told.now.items (turn_none book raw (sym c.in-None.is ∙ is))

pub returns-in_ok-turn_order-in-One : goal.returns-in_ok-turn_order-in-One
returns-in_ok-turn_order-in-One c = λ book raw is.
    let one = turn_one book raw c.in-One.before c.in-One.now (sym c.in-One.is ∙ is) in
    c.in_ok-turn_order-in-One.ensures book (after book raw) one.0 one.1

pub returns-in_ok-turn_all-in-All : goal.returns-in_ok-turn_all-in-All
returns-in_ok-turn_all-in-All c = λ book raw is. c.in_ok-turn_all-in-All.ensures book (after book raw) (turn_gone book raw (sym c.in-All.is ∙ is))
