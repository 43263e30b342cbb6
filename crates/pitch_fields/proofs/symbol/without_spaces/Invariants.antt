use Rattle.std.proofs.Common.{◌≡◌, ◌≤◌, length, take}
use Rattle.pitch_fields.specs.Name.{without_spaces}
use Rattle.pitch_fields.proofs.symbol.without_spaces.Given as goal

abbrev pub invariant-spaces : goal.invariant-spaces
invariant-spaces l = (l.end ≤ length l.name) × (without_spaces (take l.end l.name) ≡ without_spaces l.name)

abbrev pub decreases-spaces : goal.decreases-spaces
decreases-spaces l = l.end
