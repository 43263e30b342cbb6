use Rattle.std.proofs.Common.{◌≡◌, length}
use Rattle.schedule_replay.proofs.Reading.{Running, items_in}
use Rattle.schedule_replay.proofs.running.run_text.Given as goal

abbrev pub invariant-lines : goal.invariant-lines
invariant-lines g l = record {
  runs : Running (items_in l.text) l.item-iterator l.places.items l.fn.out.items l.out.items;
  many : length l.places.items ≡ 65;
}
