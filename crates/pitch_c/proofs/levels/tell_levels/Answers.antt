use Rattle.std.proofs.Common.{ℕ, List, Option, sym, subst, ◌∙◌}
use Rattle.std.specs.Option.{IsSome, IsSomeAnd}
use Rattle.pitch_fields.specs.declared.side.Side.{Side}
use Rattle.pitch_model.specs.Book.{Book}
use Rattle.pitch_model.specs.Levels.{best}
use Rattle.client_core.specs.Client.{current_book}
use Rattle.pitch_c.specs.Clients.{OfReachedBook}
use Rattle.pitch_c.specs.Lists.{ListsLevels}
use Rattle.pitch_c.proofs.Telling.{of_reached}
use Rattle.pitch_c.proofs.levels.tell_levels.Goals as goal

pub returns-in-Some-find_client-clause-levels : goal.returns-in-Some-find_client-clause-levels
returns-in-Some-find_client-clause-levels c ok =
    let units = c.args.units.now in
    let unit = c.args.unit in
    let book = current_book c.in-Some-find_client.client.now in
    let old = c.args.told.now in
    let told = c.list_levels.new.told in
    let number = c.list_levels.new.number in
    subst (λ (o : Option Side). IsSomeAnd o (λ s. OfReachedBook units unit (λ reached. ListsLevels reached c.args.symbol.now s old told number)))
    (sym c.in-Some.is ∙ c.from_byte.ensures)
    (of_reached units unit book (λ (reached : Book). ListsLevels reached c.args.symbol.now c.in-Some.side old told number) c.in-Some-find_client.ensures.book
    (subst (λ (symbol : List ℕ). ListsLevels book symbol c.in-Some.side old told number) c.from_eight-symbol.ensures (c.list_levels.ensures.levels ok)))

pub returns-in-Some-find_client-clause-memory : goal.returns-in-Some-find_client-clause-memory
returns-in-Some-find_client-clause-memory c want =
    let units = c.args.units.now in
    let unit = c.args.unit in
    let book = current_book c.in-Some-find_client.client.now in
    subst (λ (o : Option Side). IsSomeAnd o (λ s. OfReachedBook units unit (λ reached. IsSome (best reached c.args.symbol.now s))))
    (sym c.in-Some.is ∙ c.from_byte.ensures)
    (of_reached units unit book (λ (reached : Book). IsSome (best reached c.args.symbol.now c.in-Some.side)) c.in-Some-find_client.ensures.book
    (subst (λ (symbol : List ℕ). IsSome (best book symbol c.in-Some.side)) c.from_eight-symbol.ensures (c.list_levels.ensures.memory want)))
