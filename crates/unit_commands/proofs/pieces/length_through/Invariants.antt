use Rattle.std.proofs.Common.{◌≡◌, ◌≤◌, length, take}
use Rattle.unit_commands.specs.Pieces.{whole_lines}
use Rattle.unit_commands.proofs.pieces.length_through.Given as goal

abbrev pub invariant-ends : goal.invariant-ends
invariant-ends l = record {
  within : l.end ≤ length l.bytes;
  same : whole_lines (take l.end l.bytes) ≡ whole_lines l.bytes;
}

abbrev pub decreases-ends : goal.decreases-ends
decreases-ends l = l.end
