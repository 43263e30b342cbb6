-- Which best levels differ between two books.
use Rattle.std.specs.Prelude.{ℕ, Bool, true, false, ◌&&◌, ◌==◌, List, [], ◌∷◌, ◌++◌, map, Option}
use Rattle.std.specs.Prelude.{None, Some, if◌then◌else◌}
use Rattle.std.specs.List.{flat_map}
use Rattle.std.specs.Ordering.{nat_cmp}
use Rattle.std.specs.Cmp.Lexicographic.{slice_cmp}
use Rattle.std.specs.FinMap as finite
use Rattle.pitch_fields.specs.declared.side.Side.{Side}
use Rattle.pitch_fields.specs.declared.side.Side.TheVariants.{Buy, Sell}
use Rattle.pitch_messages.specs.declared.order.Order.{Order}
use Rattle.pitch_model.specs.Book.{Book}
use Rattle.pitch_model.specs.Levels.{orders_of, best}
use Rattle.best_quotes.specs.declared.quote.Quote.{Quote}

-- the symbols of some orders, each once, by rising bytes: the keys of a map
abbrev pub symbols_of : List Order → List (List ℕ)
symbols_of orders =
    finite.keys
    (finite.from_entries {R = slice_cmp nat_cmp} (map (λ order. (order.symbol, order)) orders))

-- two bests are the same: their prices and their shares are, or there is none
abbrev pub same_best : Option (ℕ × ℕ) → Option (ℕ × ℕ) → Bool
same_best None None = true
same_best (Some p) (Some q) = p.0 == q.0 && p.1 == q.1
same_best None (Some q) = false
same_best (Some p) None = false

-- the quote of a symbol on a side whose best becomes another
abbrev pub change_between : List ℕ → Side → Option (ℕ × ℕ) → Option (ℕ × ℕ) → List Quote
change_between symbol side before now =
    if same_best before now then [] else (record { symbol = symbol; side = side; best = now } ∷ [])

-- the new best of a symbol on a side, where it differs from the old one
abbrev pub change_on : Book → Book → List ℕ → Side → List Quote
change_on old new symbol side =
    change_between symbol side (best old symbol side) (best new symbol side)

-- those of a symbol, to buy before to sell
abbrev pub changes_for : Book → Book → List ℕ → List Quote
changes_for old new symbol = change_on old new symbol Buy ++ change_on old new symbol Sell

-- all of them, by rising symbol
unfoldable pub changes : Book → Book → List Quote
changes old new = flat_map (changes_for old new) (symbols_of (orders_of old ++ orders_of new))
