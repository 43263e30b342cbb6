use Rattle.std.proofs.Common.{◌-◌, length}
use Rattle.schedule_replay.proofs.Cutting.{Cutting}
use Rattle.schedule_replay.proofs.stretches.cut_text.Given as goal

abbrev pub invariant-cutting : goal.invariant-cutting
invariant-cutting l = Cutting l.text l.at l.before l.order.items l.lists.items

abbrev pub decreases-cutting : goal.decreases-cutting
decreases-cutting l = length l.text - l.at
