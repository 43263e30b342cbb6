use Rattle.std.proofs.Common.{ℕ, List, Option, sym, subst, ◌∙◌}
use Rattle.std.specs.Option.{IsSome, IsSomeAnd}
use Rattle.pitch_fields.specs.declared.side.Side.{Side}
use Rattle.pitch_model.specs.Book.{Book}
use Rattle.pitch_model.specs.Levels.{best}
use Rattle.pitch_c.specs.Ends.{OfEndBook}
use Rattle.pitch_c.specs.Lists.{ListsLevels}
use Rattle.pitch_c.proofs.Telling.{of_end_book}
use Rattle.pitch_c.proofs.end_asking.tell_levels.Goals as goal

pub returns-in-Some-clause-levels : goal.returns-in-Some-clause-levels
returns-in-Some-clause-levels c ok =
    let e = c.args.end.now in
    let book = c.book.result.now.book in
    let side = c.in-Some.side in
    let old = c.args.told.now in
    let told = c.lay_levels.new.told in
    let number = c.lay_levels.new.number in
    subst (λ (o : Option Side). IsSomeAnd o (λ sided. OfEndBook e (λ reached. ListsLevels reached c.args.symbol.now sided old told number)))
    (sym c.in-Some.is ∙ c.from_byte.ensures)
    (of_end_book e book (λ (reached : Book). ListsLevels reached c.args.symbol.now side old told number) c.book.ensures
    (subst (λ (symbol : List ℕ). ListsLevels book symbol side old told number) c.from_eight-symbol.ensures (c.lay_levels.ensures.levels ok)))

pub returns-in-Some-clause-memory : goal.returns-in-Some-clause-memory
returns-in-Some-clause-memory c want =
    let e = c.args.end.now in
    let book = c.book.result.now.book in
    let side = c.in-Some.side in
    subst (λ (o : Option Side). IsSomeAnd o (λ sided. OfEndBook e (λ reached. IsSome (best reached c.args.symbol.now sided))))
    (sym c.in-Some.is ∙ c.from_byte.ensures)
    (of_end_book e book (λ (reached : Book). IsSome (best reached c.args.symbol.now side)) c.book.ensures
    (subst (λ (symbol : List ℕ). IsSome (best book symbol side)) c.from_eight-symbol.ensures (c.lay_levels.ensures.memory want)))
