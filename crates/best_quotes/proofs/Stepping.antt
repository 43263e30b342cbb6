-- What a message does to the book, as the levels need it.
use Rattle.std.proofs.Common.{◌≡◌, ℕ, ◌&&◌, false, List, [], filter, Option, refl, sym, ap, ◌∙◌, subst}
use Rattle.std.specs.Str.{bytes_eq}
use Rattle.pitch_messages.specs.declared.order.Order.{Order}
use Rattle.pitch_model.specs.Book.{Book, IsBook, after, empty_book}
use Rattle.pitch_model.specs.Levels.{level, same_side}
use Rattle.pitch_model.proofs.Books.{after_book, empty_book_book}
use Rattle.order_book.specs.Naming.{touched}
use Rattle.order_book.specs.Turns.{turn_between, turn_of}
use Rattle.order_book.specs.declared.naming.Touches.{Touches}
use Rattle.order_book.specs.declared.naming.Touches.TheVariants as touches
use Rattle.order_book.specs.declared.turn.Turn.{Turn}
use Rattle.order_book.specs.declared.turn.Turn.TheVariants as turn
use Rattle.best_quotes.specs.layers.Ladders.{IsLadder}
use Rattle.best_quotes.specs.Leveling.{standing, Entries, Has, level_in}
use Rattle.best_quotes.specs.layers.Turning.{Becomes, AreGone}
use Rattle.best_quotes.proofs.Besting.{none_open}
use Rattle.best_quotes.proofs.Moving.{IsTouched, touches_orders}
use Rattle.best_quotes.proofs.Telling.{no_orders}

pub is_book_after : (book book' : Book) (raw : List ℕ) → book' ≡ after book raw → IsBook book → IsBook book'
is_book_after book book' raw e is = subst IsBook (sym e) (after_book book raw is)

-- ---- A turn
-- what a turn does to the orders of a book
abbrev pub IsTurn : Book → Book → Turn → Type 0
IsTurn old new turn.None = new.orders ≡ old.orders
IsTurn old new (turn.One before now) = (id : ℕ) × Becomes old new id before now
IsTurn old new turn.All = AreGone new

turns_touched : (old new : Book) (t : Touches) → IsTouched old new t → IsTurn old new (turn_between t old new)
turns_touched old new touches.None still = still
turns_touched old new (touches.One id) moves = (id, record { was = refl; is = refl; moves = moves })
turns_touched old new touches.All gone = gone

is_turn : (book : Book) (raw : List ℕ) → IsTurn book (after book raw) (turn_of book raw)
unfolding turn_of
is_turn book raw = turns_touched book (after book raw) (touched raw) (touches_orders book raw)

module _ (book : Book) (raw : List ℕ) where
  pub turn_none : turn.None ≡ turn_of book raw → (after book raw).orders ≡ book.orders
  turn_none is = subst (IsTurn book (after book raw)) (sym is) (is_turn book raw)

  pub turn_one : (before now : Option Order) → turn.One before now ≡ turn_of book raw → (id : ℕ) × Becomes book (after book raw) id before now
  turn_one before now is = subst (IsTurn book (after book raw)) (sym is) (is_turn book raw)

  pub turn_gone : turn.All ≡ turn_of book raw → AreGone (after book raw)
  turn_gone is = subst (IsTurn book (after book raw)) (sym is) (is_turn book raw)

-- ---- An empty book
pub starts_with : (book : Book) (levels : Entries) → book ≡ empty_book → levels ≡ [] → Has levels (level book)
starts_with book levels e none = subst (λ (b : Book). Has levels (level b)) (sym e) (λ symbol side price.
    ap (λ (es : Entries). level_in es symbol side price) none
    ∙ ap standing (sym (none_open empty_book empty_book_book symbol side price
    (ap (filter (λ order. bytes_eq symbol order.symbol && same_side side order.side)) no_orders))))

pub starts : (book : Book) (levels : Entries) → book ≡ empty_book → levels ≡ [] → IsLadder book levels false
starts book levels e none = record { is_book = subst IsBook (sym e) empty_book_book; has = λ f. starts_with book levels e none }
