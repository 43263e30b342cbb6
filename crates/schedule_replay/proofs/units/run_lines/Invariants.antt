use Rattle.schedule_replay.proofs.Parting.{Going}
use Rattle.schedule_replay.specs.layers.Stretches.{items_at}
use Rattle.schedule_replay.proofs.units.run_lines.Given as goal

abbrev pub invariant-entries : goal.invariant-entries
invariant-entries l = Going l.unit l.fn.lines (items_at 1 l.bytes) l.item-iterator l.fn.place l.place l.fn.out.items l.out.items
