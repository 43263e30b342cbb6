use Rattle.std.proofs.Common.{◌≡◌, true, subst, sym}
use Rattle.pitch_model.specs.Book.{Book}
use Rattle.client_core.specs.Client.{current_book}
use Rattle.leveled_units.specs.Hearing.{TellsAnew}
use Rattle.leveled_units.specs.layers.Leveled.{AreLevels}
use Rattle.leveled_units.specs.declared.unit.Heard.{Heard}
use Rattle.leveled_units.proofs.Answered.{ok_map}
use Rattle.leveled_units.proofs.unit.LeveledUnit.hear_quoted.Goals as goal

pub returns-clause-keeps : goal.returns-clause-keeps
returns-clause-keeps c = rw (← c.self.view_is) c.hear_followed.ensures.keeps

pub returns-clause-room : goal.returns-clause-room
returns-clause-room c = rw (← c.self.view_is) c.hear_followed.ensures.room

-- the levels of its book are there, whether they were or were laid
pub returns-clause-quotes : goal.returns-clause-quotes
returns-clause-quotes c =
    let client = c.self.inside.client in
    let book = c.book.ensures.same in
    let are = subst (λ (b : Book). AreLevels c.lay_missing.new.levels b) book
    (c.lay_missing.ensures.levels (subst (λ (b : Book). AreLevels c.self.inside.levels b) (sym book) c.self.invariant)) in
    rw (← c.self.view_is) (ok_map (λ (heard : Heard). heard.told ≡ true → AreLevels c.lay_missing.new.levels (current_book client) → TellsAnew client c.hear_followed.new.lines.items c.args.block.now)
    (λ heard. heard.told ≡ true → TellsAnew client c.hear_followed.new.lines.items c.args.block.now)
    c.hear_followed.result (λ heard tells told. tells told are) c.hear_followed.ensures.quotes)
