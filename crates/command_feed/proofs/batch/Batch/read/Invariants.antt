use Rattle.std.proofs.Common.{◌≡◌, ◌+◌, length}
use Rattle.text_lines.specs.Text.{all_of}
use Rattle.command_feed.specs.layers.Accepting.{with_before}
use Rattle.command_feed.proofs.batch.Batch.read.Given as goal

abbrev pub invariant-reads : goal.invariant-reads
invariant-reads l = record {
  read : all_of l.fn.items ≡ with_before l.self.entries.items (all_of l.items);
  count : length l.items + length l.self.entries.items ≡ length l.fn.items;
}

abbrev pub decreases-reads : goal.decreases-reads
decreases-reads l = length l.items
