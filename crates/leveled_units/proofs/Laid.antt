-- Levels laid from the orders of a book.
use Rattle.std.proofs.Common.{◌≡◌, ℕ, ◌+◌, List, [], ◌∷◌, ◌++◌, take, suc, None, Some, slice_get, refl, sym, ap, ◌∙◌, subst, arith}
use Rattle.std.proofs.Math.Seq.{take-suc}
use Rattle.std.proofs.lemmas.List.Sums.{sum_by_push}
use Rattle.std.proofs.lemmas.Option.{slice_get_within, get_or_from_slice_get}
use Rattle.pitch_messages.specs.declared.order.Order.{Order}
use Rattle.pitch_model.specs.Book.{Book}
use Rattle.pitch_model.specs.Levels.{level, orders_of}
use Rattle.best_quotes.specs.Balance.{shares_at}
use Rattle.best_quotes.specs.Leveling.{standing, Entries, Has, MovesLevels}
use Rattle.best_quotes.proofs.Balancing.{level_total}
use Rattle.leveled_units.specs.layers.Leveled.{shares_among}

pub none_among : (levels : Entries) → levels ≡ [] → Has levels (shares_among [])
none_among levels none = subst (λ (es : Entries). Has es (shares_among [])) (sym none) (λ symbol side price. refl)

-- one order more of them
pub one_more : (orders : List Order) (i : ℕ) (order : Order) (levels levels' : Entries) → slice_get orders i ≡ Some order → MovesLevels None (Some order) levels levels' → Has levels (shares_among (take i orders))
    → Has levels' (shares_among (take (i + 1) orders))
one_more orders i order levels levels' at moves has symbol side price =
    let next : take (suc i) orders ≡ take i orders ++ order ∷ [] = take-suc orders i order (slice_get_within orders i order at) ∙ ap (λ (x : Order). take i orders ++ x ∷ []) (get_or_from_slice_get orders i order order at) in
    let here : i + 1 ≡ suc i = omega arith in
    let sum = sum_by_push (shares_at symbol side price) (take i orders) order in
    let total : shares_among (take (i + 1) orders) symbol side price ≡ shares_among (take i orders) symbol side price + shares_at symbol side price order =
    ap (λ (n : ℕ). shares_among (take n orders) symbol side price) here ∙ ap (λ (os : List Order). shares_among os symbol side price) next ∙ sum in
    moves (shares_among (take i orders)) has symbol side price ∙ ap standing (omega arith)

-- those of all orders of a book are the book's
pub all_laid : (book : Book) (orders : List Order) (levels : Entries) → orders ≡ orders_of book → Has levels (shares_among orders) → Has levels (level book)
all_laid book orders levels all has symbol side price =
    has symbol side price ∙ ap standing (ap (λ (os : List Order). shares_among os symbol side price) all ∙ sym (level_total symbol side price book))
