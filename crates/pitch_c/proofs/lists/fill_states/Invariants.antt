use Rattle.std.proofs.Common.{◌≡◌, map}
use Rattle.pitch_c.specs.Reports.{state_shown}
use Rattle.pitch_c.proofs.Filling.{begun}
use Rattle.pitch_c.proofs.lists.fill_states.Given as goal

abbrev pub invariant-states : goal.invariant-states
invariant-states l = l.told ≡ begun l.at (map state_shown l.states) l.initial.told
