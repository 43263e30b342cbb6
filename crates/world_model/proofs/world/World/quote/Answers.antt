use Rattle.std.proofs.Common.{ap, ◌∙◌, ◌≡◌, ◌<◌, arith}
use Rattle.pitch_fields.specs.declared.side.Side.TheVariants.{Buy, Sell}
use Rattle.pitch_model.specs.Book.{Book}
use Rattle.pitch_model.specs.Levels.{best}
use Rattle.world_model.specs.declared.outcome.Outcome.TheVariants as outcome
use Rattle.world_model.specs.Verbs.{client_book}
use Rattle.world_model.proofs.Acting.{book_is}
use Rattle.world_model.proofs.world.World.quote.Goals as goal

pub returns : goal.returns
returns c = λ s has.
    let w = c.args.self.now in
    let small : w.unit < 256 = omega arith in
    let book : c.book-book.result.now.book ≡ client_book w.limits s = book_is w s has small c.book-book.result.now.book c.book-book.ensures in
    λ i. outcome.Quoted ((c.best.ensures.best ∙ ap (λ (b : Book). best b c.args.symbol Buy) book) i) ((c.best-2.ensures.best ∙ ap (λ (b : Book). best b c.args.symbol Sell) book) i)
