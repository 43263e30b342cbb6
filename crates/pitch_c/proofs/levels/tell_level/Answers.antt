use Rattle.std.proofs.Common.{◌≡◌, ℕ, List, Option, sym, subst, ap, ◌∙◌}
use Rattle.std.specs.Option.{IsSomeAnd}
use Rattle.pitch_fields.specs.declared.side.Side.{Side}
use Rattle.pitch_model.specs.Book.{Book}
use Rattle.pitch_model.specs.Levels.{level, with_level}
use Rattle.client_core.specs.Client.{current_book}
use Rattle.pitch_c.specs.Clients.{OfReachedBook}
use Rattle.pitch_c.specs.Reports.{level_shown}
use Rattle.pitch_c.proofs.Telling.{of_reached}
use Rattle.pitch_c.proofs.levels.tell_level.Goals as goal

pub returns-in-Some-find_client-clause-level : goal.returns-in-Some-find_client-clause-level
returns-in-Some-find_client-clause-level c zero =
    let units = c.args.units.now in
    let unit = c.args.unit in
    let book = current_book c.in-Some-find_client.client.now in
    let side = c.in-Some.side in
    subst (λ (o : Option Side). IsSomeAnd o (λ s. OfReachedBook units unit (λ reached. c.level_out.result ≡ level_shown (with_level reached c.args.symbol.now s c.args.price))))
    (sym c.in-Some.is ∙ c.from_byte.ensures)
    (of_reached units unit book (λ (reached : Book). c.level_out.result ≡ level_shown (with_level reached c.args.symbol.now side c.args.price)) c.in-Some-find_client.ensures.book
    (c.level_out.ensures
    ∙ ap (λ (n : ℕ). level_shown (c.from_long-price.result, n)) (c.level-shares.ensures ∙ ap (λ (symbol : List ℕ). level book symbol side c.from_long-price.result) c.from_eight.ensures)
    ∙ ap (λ (p : ℕ). level_shown (with_level book c.args.symbol.now side p)) c.from_long-price.ensures))
