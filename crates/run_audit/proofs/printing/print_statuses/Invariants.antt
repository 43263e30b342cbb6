use Rattle.std.proofs.Common.{◌≡◌, ◌++◌, take}
use Rattle.feed_lines.proofs.Booking.{state_lines}
use Rattle.run_audit.proofs.printing.print_statuses.Given as goal

abbrev pub invariant-lines : goal.invariant-lines
invariant-lines l = l.text.items ≡ l.fn.text.items ++ state_lines (take l.state-index l.states)
