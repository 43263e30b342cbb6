use Rattle.std.proofs.Common.{◌≡◌, ℕ, List, ◌++◌, ap, ◌∙◌, append_assoc}
use Rattle.pitch_messages.specs.declared.order.Order.{Order}
use Rattle.pitch_model.specs.Book.{Book}
use Rattle.feed_lines.specs.BookText.{book_orders}
use Rattle.pitch_model.specs.Levels.{orders_of}
use Rattle.feed_lines.specs.BookText.{book_head}
use Rattle.pitch_model.proofs.Results.{on_ok_map}
use Rattle.feed_lines.proofs.Booking.{lines_of}
use Rattle.world_model.proofs.Booking.{whole}
use Rattle.world_model.proofs.showing.append_book_orders.Goals as goal

pub returns-clause-ok : goal.returns-clause-ok
returns-clause-ok c =
    let book : Book = c.args.book.now.book in
    let old : List ℕ = c.args.out.now.items in
    let head : List ℕ = book_head c.args.unit c.args.reach c.second.result c.len.result in
    let slice : List Order = c.as_slice.result.now in
    let listed : slice ≡ orders_of book = c.as_slice.ensures ∙ c.in_ok-orders_by_id.ensures.ok ∙ ap (λ (l : List Order). l ++ orders_of book) c.make-orders.ensures in
    on_ok_map (c.append_orders.new.out.items ≡ c.append_head.new.out.items ++ lines_of slice) (c.append_orders.new.out.items ≡ old ++ book_orders c.args.unit c.args.reach book) c.append_orders.result c.append_orders.ensures.ok
    (λ given. given ∙ ap (λ (t : List ℕ). t ++ lines_of slice) c.in_ok-append_head.ensures.ok ∙ append_assoc old head (lines_of slice)
    ∙ ap (λ (t : List ℕ). old ++ t) (whole c.args.unit c.args.reach c.len.result c.second.result slice book c.len.ensures.book c.second.ensures c.len.ensures.count listed))
