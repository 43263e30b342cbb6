use Rattle.std.proofs.Common.{rules, refl, length, sym, ap, ◌∙◌, ◌++◌, List, ℕ, take, append_assoc}
use Rattle.std.proofs.lemmas.Option.{slice_get_read}
use Rattle.pitch_messages.specs.declared.trading_state.TradingState.{TradingState}
use Rattle.feed_lines.specs.BookText.{status_line}
use Rattle.feed_lines.proofs.Booking.{state_lines, state_lines_take}
use Rattle.run_audit.proofs.printing.print_statuses.Goals as goal

pub lines-preserved : goal.lines-preserved
lines-preserved c =
    let all : List TradingState = c.args.states.now in
    let i : ℕ = c.lines.state-index in
    c.in_ok-print_status.ensures
    ∙ ap (λ (t : List ℕ). t ++ status_line c.state-item.result) c.lines.invariant
    ∙ append_assoc c.args.text.now.items (state_lines (take i all)) (status_line c.state-item.result)
    ∙ ap (λ (t : List ℕ). c.args.text.now.items ++ t) (sym (state_lines_take all i c.state-item.result (slice_get_read all (length all) i c.state-item.result refl (search rules) c.state-item.is)))
