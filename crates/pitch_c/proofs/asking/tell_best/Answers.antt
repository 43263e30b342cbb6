use Rattle.std.proofs.Common.{◌≡◌, ◌∙◌, List, ℕ, Option, sym, subst, ap}
use Rattle.std.specs.Option.{IsSomeAnd}
use Rattle.pitch_fields.specs.declared.side.Side.{Side}
use Rattle.pitch_model.specs.Book.{Book}
use Rattle.pitch_model.specs.Levels.{best}
use Rattle.client_core.specs.Client.{current_book}
use Rattle.pitch_c.specs.Clients.{OfReachedBook}
use Rattle.pitch_c.specs.Reports.{best_shown}
use Rattle.pitch_c.proofs.Telling.{of_reached}
use Rattle.pitch_c.proofs.asking.tell_best.Goals as goal

pub returns-in-Some-find_client-clause-best : goal.returns-in-Some-find_client-clause-best
returns-in-Some-find_client-clause-best c zero =
    let units = c.args.units.now in
    let unit = c.args.unit in
    let book = current_book c.in-Some-find_client.client.now in
    subst (λ (o : Option Side). IsSomeAnd o (λ s. OfReachedBook units unit (λ reached. c.best_out.result ≡ best_shown (best reached c.args.symbol.now s))))
    (sym c.in-Some.is ∙ c.from_byte.ensures)
    (of_reached units unit book (λ (reached : Book). c.best_out.result ≡ best_shown (best reached c.args.symbol.now c.in-Some.side)) c.in-Some-find_client.ensures.book
    (c.best_out.ensures ∙ ap best_shown (c.best.ensures ∙ ap (λ (symbol : List ℕ). best book symbol c.in-Some.side) c.from_eight.ensures)))
