use Rattle.std.proofs.Common.{◌≡◌, ◌++◌, ℕ, List, Option, sym, ap, ◌∙◌, subst}
use Rattle.std.specs.FinMap as fin
use Rattle.pitch_messages.specs.declared.order.Order.{Order}
use Rattle.pitch_model.specs.Book.{Book, IsBook}
use Rattle.pitch_model.specs.Levels.{orders_of}
use Rattle.feed_lines.specs.BookText.{book_head, book_orders}
use Rattle.stream_print.specs.Page.{Page, Prints}
use Rattle.stream_print.specs.Putting.{PutsSome}
use Rattle.feed_lines.proofs.Booking.{lines_of, book_orders_is}
use Rattle.pitch_model.proofs.Results.{on_ok_map, on_err_map}
use Rattle.stream_print.proofs.Printing.{prints_line, prints_more, puts_then}
use Rattle.stream_print.proofs.books.print_book_orders.Goals as goal

-- the first line of the book and the lines of its orders
whole : (unit n count : ℕ) (second : Option ℕ) (orders : List Order) (book : Book) → IsBook book → second ≡ book.second → count ≡ fin.len book.orders → orders ≡ orders_of book
    → book_head unit n second count ++ lines_of orders ≡ book_orders unit n book
whole unit n count second orders book is s k os =
    ap (λ (o : Option ℕ). book_head unit n o count ++ lines_of orders) s
    ∙ ap (λ (m : ℕ). book_head unit n book.second m ++ lines_of orders) k
    ∙ ap (λ (l : List Order). book_head unit n book.second (fin.len book.orders) ++ lines_of l) os
    ∙ sym (book_orders_is unit n book is)

pub returns-clause-printed : goal.returns-clause-printed
returns-clause-printed g c =
    let w : Option (List ℕ) = g.O.Sink.written c.args.out.now in
    let v : Option (List ℕ) = g.O.Sink.written c.make_place.new.out in
    let z : Option (List ℕ) = g.O.Sink.written c.print_orders.new.out in
    let book : Book = c.args.book.now.book in
    let head : List ℕ = book_head c.args.unit c.args.reach c.second.result c.from.result in
    let slice : List Order = c.as_slice.result.now in
    let listed : slice ≡ orders_of book = c.as_slice.ensures ∙ c.in_ok-orders_by_id.ensures.ok ∙ ap (λ (l : List Order). l ++ orders_of book) c.make-orders.ensures in
    let first = prints_line w v c.args.page.now.text c.make_place.new.self.text c.add_book.new.self.text head c.in_ok-make_place.ensures.ok (ap (λ (p : Page). p.text) c.add_book.ensures) in
    on_ok_map (Prints v c.add_book.new.self.text z c.print_orders.new.page.text (lines_of slice)) (Prints w c.args.page.now.text z c.print_orders.new.page.text (book_orders c.args.unit c.args.reach book)) _ c.print_orders.ensures.printed
    (λ p. subst (Prints w c.args.page.now.text z c.print_orders.new.page.text)
    (whole c.args.unit c.args.reach c.from.result c.second.result slice book c.len.ensures.book c.second.ensures (c.from.ensures ∙ c.len.ensures.count) listed)
    (prints_more w v z c.args.page.now.text c.add_book.new.self.text c.print_orders.new.page.text head (lines_of slice) first p))

pub returns-clause-err : goal.returns-clause-err
returns-clause-err g c =
    let w : Option (List ℕ) = g.O.Sink.written c.args.out.now in
    let v : Option (List ℕ) = g.O.Sink.written c.make_place.new.out in
    let z : Option (List ℕ) = g.O.Sink.written c.print_orders.new.out in
    let book : Book = c.args.book.now.book in
    let head : List ℕ = book_head c.args.unit c.args.reach c.second.result c.from.result in
    let slice : List Order = c.as_slice.result.now in
    let listed : slice ≡ orders_of book = c.as_slice.ensures ∙ c.in_ok-orders_by_id.ensures.ok ∙ ap (λ (l : List Order). l ++ orders_of book) c.make-orders.ensures in
    let first = prints_line w v c.args.page.now.text c.make_place.new.self.text c.add_book.new.self.text head c.in_ok-make_place.ensures.ok (ap (λ (p : Page). p.text) c.add_book.ensures) in
    on_err_map (PutsSome v z (c.add_book.new.self.text ++ lines_of slice)) (PutsSome w z (c.args.page.now.text ++ book_orders c.args.unit c.args.reach book)) _ c.print_orders.ensures.err
    (λ p. subst (λ (t : List ℕ). PutsSome w z (c.args.page.now.text ++ t))
    (whole c.args.unit c.args.reach c.from.result c.second.result slice book c.len.ensures.book c.second.ensures (c.from.ensures ∙ c.len.ensures.count) listed)
    (puts_then w v z c.args.page.now.text c.add_book.new.self.text head (lines_of slice) first p))
