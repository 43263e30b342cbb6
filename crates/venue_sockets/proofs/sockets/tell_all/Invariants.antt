use Rattle.std.proofs.Common.{◌≡◌}
use Rattle.venue_sockets.proofs.sockets.tell_all.Given as goal

-- at no place a connection came or went
abbrev pub invariant-loop-event : goal.invariant-loop-event
invariant-loop-event g l = l.places ≡ l.initial.places
