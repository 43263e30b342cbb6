use Rattle.std.proofs.Common.{◌≡◌}
use Rattle.live_sockets.proofs.sockets.tell_all.Given as goal

-- no connection came or went
abbrev pub invariant-loop-event : goal.invariant-loop-event
invariant-loop-event l = l.peers ≡ l.initial.peers
