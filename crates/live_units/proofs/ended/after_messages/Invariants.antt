use Rattle.std.proofs.Common.{◌≡◌, ◌+◌, ◌≤◌, List, length}
use Rattle.pitch_model.specs.History.{Entry}
use Rattle.live_units.specs.Ended.{ends_of}
use Rattle.live_units.specs.Standing.{lowest}
use Rattle.live_units.proofs.Ends.{EndsTo}
use Rattle.live_units.proofs.ended.after_messages.Given as goal

abbrev pub invariant-messages : goal.invariant-messages
invariant-messages l = record {
  within : l.next + length l.raws ≤ 4294967295;
  ends : (E : List Entry) → l.fn.first ≡ lowest (ends_of E) → EndsTo l.lowest l.fn.sequence l.next l.initial.raws l.raws E;
}

abbrev pub decreases-messages : goal.decreases-messages
decreases-messages l = length l.raws
