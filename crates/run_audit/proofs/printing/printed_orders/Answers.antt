use Rattle.std.proofs.Common.{rules, refl, length, sym, ap, ◌∙◌, ◌++◌, List, ℕ, take, append_assoc, take_all}
use Rattle.std.specs.FinMap as map
use Rattle.std.proofs.lemmas.Option.{slice_get_read}
use Rattle.pitch_messages.specs.declared.order.Order.{Order}
use Rattle.feed_lines.specs.BookText.{order_line}
use Rattle.feed_lines.specs.BookText.{book_head}
use Rattle.feed_lines.proofs.Booking.{lines_of, lines_take, book_orders_is}
use Rattle.run_audit.proofs.printing.printed_orders.Goals as goal

pub lines-preserved : goal.lines-preserved
lines-preserved c =
    let all : List Order = c.as_slice-order-items.result.now in
    let i : ℕ = c.lines.order-index in
    let head : List ℕ = book_head c.args.unit c.args.n c.args.book.now.book.second (map.len c.args.book.now.book.orders) in
    c.in_ok-print_order.ensures
    ∙ ap (λ (t : List ℕ). t ++ order_line c.order-item.result.id c.order-item.result) c.lines.invariant
    ∙ append_assoc head (lines_of (take i all)) (order_line c.order-item.result.id c.order-item.result)
    ∙ ap (λ (t : List ℕ). head ++ t) (sym (lines_take all i c.order-item.result (slice_get_read all (length all) i c.order-item.result refl (search rules) c.order-item.is)))

pub returns : goal.returns
returns c =
    let all : List Order = c.as_slice-order-items.result.now in
    let same = c.as_slice-order-items.ensures in
    let ordered = c.in_ok-orders_by_id.ensures.ok in
    c.lines.invariant
    ∙ ap (λ (t : List ℕ). book_head c.args.unit c.args.n c.args.book.now.book.second (map.len c.args.book.now.book.orders) ++ t) (ap lines_of (take_all c.lines.order-index all (search rules) ∙ search (rules, same, ordered)))
    ∙ sym (book_orders_is c.args.unit c.args.n c.args.book.now.book c.len-count.ensures.book)
