use Rattle.std.proofs.Common.{ap, ◌∙◌, ◌++◌, List, ℕ}
use Rattle.pitch_messages.specs.declared.trading_state.TradingState.{TradingState}
use Rattle.pitch_model.specs.Statuses.{statuses_of}
use Rattle.feed_lines.specs.BookText.{book_orders, book_text}
use Rattle.feed_lines.proofs.Booking.{state_lines}
use Rattle.run_audit.proofs.printing.printed.Goals as goal

pub returns : goal.returns
unfolding book_text
returns c =
    let listed = c.as_slice.ensures ∙ c.in_ok-statuses_by_symbol.ensures.ok ∙ ap (λ (l : List TradingState). l ++ statuses_of c.args.book.now.book) c.make-states.ensures in
    c.in_ok-print_statuses.ensures
    ∙ ap (λ (t : List ℕ). t ++ state_lines c.as_slice.result.now) c.in_ok-text.ensures
    ∙ ap (λ (l : List TradingState). book_orders c.args.unit c.args.n c.args.book.now.book ++ state_lines l) listed
