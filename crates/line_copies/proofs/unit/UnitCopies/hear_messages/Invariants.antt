use Rattle.std.proofs.Common.{◌+◌, ◌≤◌, List, length}
use Rattle.pitch_model.specs.History.{Entry}
use Rattle.line_copies.specs.Copies.{Keeps}
use Rattle.line_copies.proofs.Keeping.{Along}
use Rattle.line_copies.proofs.unit.UnitCopies.hear_messages.Given as goal

abbrev pub invariant-messages : goal.invariant-messages
invariant-messages l = record {
  within : l.sequence + length l.raws ≤ 4294967295;
  along : (E : List Entry) → Keeps l.fn.self E → Along l.self l.fn.first l.sequence l.initial.raws l.raws l.told E;
}

abbrev pub decreases-messages : goal.decreases-messages
decreases-messages l = length l.raws
