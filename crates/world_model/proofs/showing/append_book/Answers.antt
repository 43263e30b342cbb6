use Rattle.std.proofs.Common.{◌≡◌, ℕ, List, ◌++◌, ap, ◌∙◌, append_assoc}
use Rattle.pitch_messages.specs.declared.trading_state.TradingState.{TradingState}
use Rattle.pitch_model.specs.Book.{Book}
use Rattle.pitch_model.specs.Statuses.{statuses_of}
use Rattle.feed_lines.specs.BookText.{book_orders, book_text}
use Rattle.pitch_model.proofs.Results.{on_ok_map}
use Rattle.feed_lines.proofs.Booking.{state_lines}
use Rattle.world_model.proofs.Booking.{begins_still}
use Rattle.world_model.proofs.showing.append_book.Goals as goal

pub returns-clause-ok : goal.returns-clause-ok
unfolding book_text
returns-clause-ok c =
    let book : Book = c.args.book.now.book in
    let old : List ℕ = c.args.out.now.items in
    let orders : List ℕ = book_orders c.args.unit c.args.reach book in
    let listed = c.as_slice.ensures ∙ c.in_ok-statuses_by_symbol.ensures.ok ∙ ap (λ (l : List TradingState). l ++ statuses_of book) c.make-states.ensures in
    on_ok_map (c.append_statuses.new.out.items ≡ c.append_book_orders.new.out.items ++ state_lines c.as_slice.result.now) (c.append_statuses.new.out.items ≡ old ++ book_text c.args.unit c.args.reach book) c.append_statuses.result c.append_statuses.ensures.ok
    (λ given. given ∙ ap (λ (t : List ℕ). t ++ state_lines c.as_slice.result.now) c.in_ok-append_book_orders.ensures.ok ∙ append_assoc old orders (state_lines c.as_slice.result.now)
    ∙ ap (λ (xs : List TradingState). old ++ (orders ++ state_lines xs)) listed)

pub returns-clause-behind : goal.returns-clause-behind
returns-clause-behind c = begins_still c.args.out.now.items c.append_book_orders.new.out.items c.append_statuses.new.out.items c.append_book_orders.ensures.behind c.append_statuses.ensures.behind
