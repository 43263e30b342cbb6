use Rattle.std.proofs.Common.{◌≡◌, ℕ, List, length}
use Rattle.text_lines.specs.Text.{all_of}
use Rattle.venue_core.specs.Stands.{Stands}
use Rattle.command_feed.specs.layers.Accepting.{TakesSome}
use Rattle.command_feed.proofs.feed.accept_all.Given as goal

abbrev pub invariant-batches : goal.invariant-batches
invariant-batches l = record {
  takes : (accepted : List (List ℕ)) → Stands l.fn.venue accepted 0 → TakesSome accepted (all_of l.fn.items) (all_of l.items) l.venue;
  unit : l.venue.unit ≡ l.fn.venue.unit;
}

abbrev pub decreases-batches : goal.decreases-batches
decreases-batches l = length l.items
