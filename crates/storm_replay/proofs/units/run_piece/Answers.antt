use Rattle.std.proofs.Common.{◌+◌, arith}
use Rattle.std.proofs.Math.ListN.{get_or}
use Rattle.std.proofs.lemmas.Option.{slice_get-get_or}
use Rattle.storm_replay.proofs.Course.{done_next}
use Rattle.storm_replay.proofs.units.run_piece.Goals as goal

pub units-preserved : goal.units-preserved
units-preserved g c =
    done_next c.args.number c.args.steps c.args.units.now c.units.unit-index (c.units.unit-index + 1) (get_or c.args.units.now c.units.unit-index 0) c.units.worlds.items c.push.new.self.items c.in_ok-world.world
    (slice_get-get_or c.args.units.now c.units.unit-index 0 c.units-test.true) (omega arith) c.in_ok-push.ensures.ok c.units.invariant c.in_ok-world.ensures
