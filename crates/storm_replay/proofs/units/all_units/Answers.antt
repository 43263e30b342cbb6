use Rattle.std.proofs.Common.{◌+◌, sym, ◌∙◌, arith}
use Rattle.storm_replay.proofs.Course.{count_none, count_next}
use Rattle.storm_replay.proofs.units.all_units.Goals as goal

pub units-init : goal.units-init
units-init c = c.new-all.ensures.items ∙ sym count_none

pub units-preserved : goal.units-preserved
units-preserved c = count_next c.units.index (c.units.index + 1) c.units.all.items c.push.new.self.items (omega arith) c.units.invariant c.in_ok-push.ensures.items
