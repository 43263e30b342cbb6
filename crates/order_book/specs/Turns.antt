-- What messages do to the open orders.
use Rattle.std.specs.Prelude.{ℕ, List, [], ◌∷◌}
use Rattle.std.specs.FinMap as map
use Rattle.pitch_model.specs.Book.{Book, after}
use Rattle.order_book.specs.Naming.{touched}
use Rattle.order_book.specs.declared.naming.Touches.{Touches}
use Rattle.order_book.specs.declared.naming.Touches.TheVariants as touches
use Rattle.order_book.specs.declared.turn.Turn.{Turn}
use Rattle.order_book.specs.declared.turn.Turn.TheVariants as turn

-- of the orders that are touched, those of the one book and of the other
abbrev pub turn_between : Touches → Book → Book → Turn
turn_between touches.None old new = turn.None
turn_between (touches.One id) old new = turn.One (map.get old.orders id) (map.get new.orders id)
turn_between touches.All old new = turn.All

-- what a raw message does to the orders of a book
unfoldable pub turn_of : Book → List ℕ → Turn
turn_of book raw = turn_between (touched raw) book (after book raw)

-- what each of some messages does, one after another
abbrev pub turns_of : Book → List (List ℕ) → List Turn
turns_of book [] = []
turns_of book (raw ∷ raws) = turn_of book raw ∷ turns_of (after book raw) raws
