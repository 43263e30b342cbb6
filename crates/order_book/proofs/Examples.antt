-- Worked examples of what messages do to the open orders.
use Rattle.std.proofs.Common.{◌≡◌, ℕ, List, [], ◌∷◌, Option, None, Some, true, codes, refl, ap, ◌∙◌}
use Rattle.std.specs.Ordering.{nat_cmp}
use Rattle.std.specs.FinMap as map
use Rattle.std.proofs.lemmas.Cmp.{nat_cmp_total}
use Rattle.pitch_fields.specs.declared.side.Side.TheVariants.{Buy}
use Rattle.pitch_messages.specs.Reading.{reads}
use Rattle.pitch_messages.specs.declared.order.Order.{Order}
use Rattle.pitch_model.specs.Book.{Book, empty_book, with_order, without_order, after}
use Rattle.order_book.specs.Turns.{turn_of, turns_of}
use Rattle.order_book.specs.declared.turn.Turn.TheVariants as turn

-- an order to buy 100 of IBM at 10.00, its add, and its deletion
abbrev order : Order
order = record { id = 1; side = Buy; quantity = 100; symbol = codes "IBM     "; price = 100000; display = true; participant = codes "    " }

abbrev add : List ℕ
add = 0x1A ∷ 0x22 ∷ 0 ∷ 0 ∷ 0 ∷ 0 ∷ 1 ∷ 0 ∷ 0 ∷ 0 ∷ 0 ∷ 0 ∷ 0 ∷ 0 ∷ 0x42 ∷ 100 ∷ 0 ∷ 0x49 ∷ 0x42 ∷ 0x4D ∷ 0x20 ∷ 0x20 ∷ 0x20 ∷ 0xE8 ∷ 3 ∷ 1 ∷ []

abbrev deletion : List ℕ
deletion = 0x0E ∷ 0x29 ∷ 0 ∷ 0 ∷ 0 ∷ 0 ∷ 1 ∷ 0 ∷ 0 ∷ 0 ∷ 0 ∷ 0 ∷ 0 ∷ 0 ∷ []

abbrev book_of_one : Book
book_of_one = with_order empty_book 1 order

order_is_open : map.get book_of_one.orders 1 ≡ Some order
order_is_open = map.get-insert nat_cmp_total empty_book.orders 1 order 1

order_is_gone : map.get (without_order book_of_one 1).orders 1 ≡ None
order_is_gone = map.get-remove nat_cmp_total book_of_one.orders 1 1

an_add_puts_an_order : turn_of empty_book add ≡ turn.One None (Some order)
unfolding turn_of after reads
an_add_puts_an_order = ap (λ (o : Option Order). turn.One o (map.get book_of_one.orders 1)) (map.get-empty nat_cmp 1) ∙ ap (turn.One None) order_is_open

a_deletion_takes_it : turn_of book_of_one deletion ≡ turn.One (Some order) None
unfolding turn_of after reads
a_deletion_takes_it = ap (λ (o : Option Order). turn.One o (map.get (without_order book_of_one 1).orders 1)) order_is_open ∙ ap (turn.One (Some order)) order_is_gone

-- a whole Unit Clear and one that is cut short, and a trade break
clears_and_breaks : (book : Book)
    → turns_of book ((0x06 ∷ 0x97 ∷ 0 ∷ 0 ∷ 0 ∷ 0 ∷ []) ∷ (0x05 ∷ 0x97 ∷ 0 ∷ 0 ∷ 0 ∷ []) ∷ (0x0E ∷ 0x2C ∷ 0 ∷ 0 ∷ 0 ∷ 0 ∷ 1 ∷ 0 ∷ 0 ∷ 0 ∷ 0 ∷ 0 ∷ 0 ∷ 0 ∷ []) ∷ [])
    ≡ turn.All ∷ turn.None ∷ turn.None ∷ []
unfolding turn_of
clears_and_breaks book = refl
