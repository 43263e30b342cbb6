use Rattle.std.proofs.Common.{◌≡◌, ◌++◌, take}
use Rattle.feed_lines.proofs.Booking.{state_lines}
use Rattle.world_model.proofs.showing.append_statuses.Given as goal

abbrev pub invariant-lines : goal.invariant-lines
invariant-lines l = l.out.items ≡ l.fn.out.items ++ state_lines (take l.state-index l.states)
