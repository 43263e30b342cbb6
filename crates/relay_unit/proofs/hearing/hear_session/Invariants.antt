use Rattle.std.proofs.Common.{ℕ, ◌+◌, ◌≤◌, List, length}
use Rattle.pitch_model.specs.History.{Entry}
use Rattle.client_core.specs.Tracks.{Tracks}
use Rattle.client_core.specs.Weight.{weight}
use Rattle.relay_unit.specs.layers.Sending.{SendsAny}
use Rattle.relay_unit.proofs.Along.{Along}
use Rattle.relay_unit.proofs.hearing.hear_session.Given as goal

abbrev pub invariant-messages : goal.invariant-messages
invariant-messages l = record {
  along : (H : ℕ) (E : List Entry) → Tracks l.fn.client H E → Along l.fn.client l.client l.fn.raws l.raws l.fn.sent.items l.sent.items l.last H E;
  any : SendsAny l.fn.client l.client l.fn.sent.items l.sent.items;
  weighs : (length l.sent.items + weight l.client) + length l.raws ≤ (length l.fn.sent.items + weight l.fn.client) + length l.fn.raws;
}

abbrev pub decreases-messages : goal.decreases-messages
decreases-messages l = length l.raws
