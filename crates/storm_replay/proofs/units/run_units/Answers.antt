use Rattle.std.proofs.Common.{ℕ, List, ◌∙◌, subst}
use Rattle.storm_replay.specs.layers.Units.{AreUnitsDone}
use Rattle.storm_replay.proofs.Course.{pieces_done}
use Rattle.storm_replay.proofs.units.run_units.Goals as goal

pub returns : goal.returns
returns g c =
    subst (λ (l : List ℕ). AreUnitsDone c.args.storm.number c.args.storm.steps l c.in_ok-worlds.worlds.items) (c.deref.ensures.value ∙ c.in_ok-all.ensures)
    (pieces_done c.args.storm.number c.args.storm.steps _ c.deref.result.now c.in_ok-pieces.pieces.items c.in_ok-worlds.worlds.items c.in_ok-pieces.ensures.many c.in_ok-pieces.ensures.each c.in_ok-worlds.ensures)
