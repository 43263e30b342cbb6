use Rattle.std.proofs.Common.{List, ◌++◌, ◌∷◌, [], sym, ap, ◌∙◌, subst}
use Rattle.storm_replay.specs.layers.Units.{AreGathered}
use Rattle.storm_replay.proofs.Course.{gather_ok}
use Rattle.world_model.specs.declared.world.World.{World}
use Rattle.storm_replay.proofs.units.gather.Goals as goal

pub pieces-preserved : goal.pieces-preserved
pieces-preserved c =
    subst (λ p. AreGathered (c.pieces.yielded ++ p ∷ []) c.append.new.self.items) (sym c.in-Ok.is)
    (gather_ok c.pieces.yielded c.in-Ok.done c.pieces.worlds.items c.append.new.self.items c.pieces.invariant (c.in_ok-append-in-Ok.ensures.ok ∙ ap (λ (l : List World). c.pieces.worlds.items ++ l) c.into_vec.ensures))
