use Rattle.std.proofs.Common.{◌≡◌, ℕ, List, Option, sym, subst, ap, ◌∙◌}
use Rattle.std.specs.Option.{IsSomeAnd}
use Rattle.pitch_fields.specs.declared.side.Side.{Side}
use Rattle.pitch_model.specs.Book.{Book}
use Rattle.pitch_model.specs.Levels.{level, with_level}
use Rattle.pitch_c.specs.Ends.{OfEndBook}
use Rattle.pitch_c.specs.Reports.{level_shown}
use Rattle.pitch_c.proofs.Telling.{of_end_book}
use Rattle.pitch_c.proofs.end_asking.tell_level.Goals as goal

pub returns-clause-level : goal.returns-clause-level
returns-clause-level c zero =
    let e = c.args.end.now in
    let book = c.book.result.now.book in
    let side = c.in-Some.side in
    subst (λ (o : Option Side). IsSomeAnd o (λ sided. OfEndBook e (λ reached. c.level_out.result ≡ level_shown (with_level reached c.args.symbol.now sided c.args.price))))
    (sym c.in-Some.is ∙ c.from_byte.ensures)
    (of_end_book e book (λ (reached : Book). c.level_out.result ≡ level_shown (with_level reached c.args.symbol.now side c.args.price)) c.book.ensures
    (c.level_out.ensures
    ∙ ap (λ (n : ℕ). level_shown (c.from_long-price.result, n)) (c.level-shares.ensures ∙ ap (λ (symbol : List ℕ). level book symbol side c.from_long-price.result) c.from_eight.ensures)
    ∙ ap (λ (p : ℕ). level_shown (with_level book c.args.symbol.now side p)) c.from_long-price.ensures))
