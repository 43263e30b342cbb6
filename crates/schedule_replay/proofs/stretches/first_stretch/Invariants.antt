use Rattle.std.proofs.Common.{◌-◌, length}
use Rattle.schedule_replay.proofs.Cutting.{GrowingStretch}
use Rattle.schedule_replay.proofs.stretches.first_stretch.Given as goal

abbrev pub invariant-lines : goal.invariant-lines
invariant-lines l = GrowingStretch l.lines l.size l.text

abbrev pub decreases-lines : goal.decreases-lines
decreases-lines l = length l.text - l.size
