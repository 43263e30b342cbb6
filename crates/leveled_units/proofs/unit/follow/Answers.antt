use Rattle.std.proofs.Common.{◌≡◌, ◌+◌, List, [], ◌∷◌, length, refl, sym, ap, ◌∙◌, subst, arith}
use Rattle.std.proofs.lemmas.Bool.{eqb-true}
use Rattle.order_book.specs.Turns.{turns_of}
use Rattle.order_book.specs.declared.turn.Turn.{Turn}
use Rattle.order_book.proofs.Turning.{length-turns_of}
use Rattle.pitch_model.specs.Book.{Book, after}
use Rattle.pitch_model.specs.History.{Raw}
use Rattle.best_quotes.specs.LastBest.{quoted}
use Rattle.leveled_units.specs.layers.Leveled.{AreLevels}
use Rattle.std.specs.Prelude.{fold}
use Rattle.leveled_units.proofs.unit.follow.Goals as goal

-- where nothing was done to the orders, no message was applied
none_applied : (book : Book) (raws : List Raw) (turns : List Turn) → turns ≡ turns_of book raws → length turns ≡ 0 → raws ≡ []
none_applied book [] turns are none = refl
none_applied book (raw ∷ raws) turns are none =
    let size : length turns ≡ length (raw ∷ raws) = ap length are ∙ length-turns_of book (raw ∷ raws) in
    absurd (omega (arith, none, size))

pub returns-then-is_empty-clause-levels : goal.returns-then-is_empty-clause-levels
returns-then-is_empty-clause-levels c book raws stands are levels =
    let none = none_applied book raws c.args.turns.now are (eqb-true (length c.args.turns.now) 0 (sym c.if-is_empty.ensures)) in
    subst (λ (rs : List Raw). AreLevels c.args.levels.now (fold after book rs)) (sym none) levels

pub returns-then-is_empty-clause-told : goal.returns-then-is_empty-clause-told
returns-then-is_empty-clause-told c told book raws stands are levels =
    let none = none_applied book raws c.args.turns.now are (eqb-true (length c.args.turns.now) 0 (sym c.if-is_empty.ensures)) in
    c.truncate.ensures.items ∙ ap (λ (rs : List Raw). quoted (c.args.reach + 1) book rs) (sym none)
