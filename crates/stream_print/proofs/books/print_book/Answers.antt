use Rattle.std.proofs.Common.{◌++◌, ℕ, List, Option, ap, ◌∙◌, subst, append_assoc}
use Rattle.pitch_messages.specs.declared.trading_state.TradingState.{TradingState}
use Rattle.pitch_model.specs.Book.{Book}
use Rattle.pitch_model.specs.Statuses.{statuses_of}
use Rattle.feed_lines.specs.BookText.{book_orders, book_text}
use Rattle.feed_lines.proofs.Booking.{state_lines}
use Rattle.stream_print.specs.Page.{Prints}
use Rattle.stream_print.specs.Putting.{PutsSome}
use Rattle.pitch_model.proofs.Results.{on_ok_map, on_err, on_err_map}
use Rattle.stream_print.proofs.Printing.{prints_more, puts_then, puts_longer}
use Rattle.stream_print.proofs.books.print_book.Goals as goal

pub returns-in_err-print_book_orders-clause-err : goal.returns-in_err-print_book_orders-clause-err
unfolding book_text
returns-in_err-print_book_orders-clause-err g c =
    let w : Option (List ℕ) = g.O.Sink.written c.args.out.now in
    let z : Option (List ℕ) = g.O.Sink.written c.print_book_orders.new.out in
    let orders : List ℕ = book_orders c.args.unit c.args.reach c.args.book.now.book in
    let states : List ℕ = state_lines (statuses_of c.args.book.now.book) in
    on_err (PutsSome w z (c.args.page.now.text ++ (orders ++ states))) _
    (subst (PutsSome w z) (append_assoc c.args.page.now.text orders states) (puts_longer w z (c.args.page.now.text ++ orders) states c.in_err-print_book_orders.ensures.err))

pub returns-clause-printed : goal.returns-clause-printed
unfolding book_text
returns-clause-printed g c =
    let w : Option (List ℕ) = g.O.Sink.written c.args.out.now in
    let v : Option (List ℕ) = g.O.Sink.written c.print_book_orders.new.out in
    let z : Option (List ℕ) = g.O.Sink.written c.print_statuses.new.out in
    let book : Book = c.args.book.now.book in
    let orders : List ℕ = book_orders c.args.unit c.args.reach book in
    let listed = c.as_slice.ensures ∙ c.in_ok-statuses_by_symbol.ensures.ok ∙ ap (λ (l : List TradingState). l ++ statuses_of book) c.make-states.ensures in
    on_ok_map (Prints v c.print_book_orders.new.page.text z c.print_statuses.new.page.text (state_lines c.as_slice.result.now)) (Prints w c.args.page.now.text z c.print_statuses.new.page.text (book_text c.args.unit c.args.reach book)) _ c.print_statuses.ensures.printed
    (λ p. subst (λ (xs : List TradingState). Prints w c.args.page.now.text z c.print_statuses.new.page.text (orders ++ state_lines xs)) listed
    (prints_more w v z c.args.page.now.text c.print_book_orders.new.page.text c.print_statuses.new.page.text orders (state_lines c.as_slice.result.now) c.in_ok-print_book_orders.ensures.printed p))

pub returns-clause-err : goal.returns-clause-err
unfolding book_text
returns-clause-err g c =
    let w : Option (List ℕ) = g.O.Sink.written c.args.out.now in
    let v : Option (List ℕ) = g.O.Sink.written c.print_book_orders.new.out in
    let z : Option (List ℕ) = g.O.Sink.written c.print_statuses.new.out in
    let book : Book = c.args.book.now.book in
    let orders : List ℕ = book_orders c.args.unit c.args.reach book in
    let listed = c.as_slice.ensures ∙ c.in_ok-statuses_by_symbol.ensures.ok ∙ ap (λ (l : List TradingState). l ++ statuses_of book) c.make-states.ensures in
    on_err_map (PutsSome v z (c.print_book_orders.new.page.text ++ state_lines c.as_slice.result.now)) (PutsSome w z (c.args.page.now.text ++ book_text c.args.unit c.args.reach book)) _ c.print_statuses.ensures.err
    (λ p. subst (λ (xs : List TradingState). PutsSome w z (c.args.page.now.text ++ (orders ++ state_lines xs))) listed
    (puts_then w v z c.args.page.now.text c.print_book_orders.new.page.text orders (state_lines c.as_slice.result.now) c.in_ok-print_book_orders.ensures.printed p))
