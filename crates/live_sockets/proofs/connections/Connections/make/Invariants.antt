use Rattle.std.proofs.Common.{◌≡◌, map, false, replicate}
use Rattle.std.specs.Prelude.{is_some}
use Rattle.live_sockets.proofs.connections.Connections.make.Given as goal

-- none stands of those up to here
abbrev pub invariant-loop-at : goal.invariant-loop-at
invariant-loop-at l = map is_some l.slots.items ≡ replicate l.at false
