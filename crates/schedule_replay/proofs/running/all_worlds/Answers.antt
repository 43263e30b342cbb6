use Rattle.std.proofs.Common.{List, Option, [], ◌∷◌, ◌++◌, sym, ap, ◌∙◌}
use Rattle.world_model.specs.declared.world.World.{World}
use Rattle.schedule_replay.specs.layers.Places.{worlds_in}
use Rattle.schedule_replay.proofs.Places.{worlds_none, worlds_more}
use Rattle.schedule_replay.proofs.running.all_worlds.Goals as goal

pub places-preserved-in-Continue-1 : goal.places-preserved-in-Continue-1
places-preserved-in-Continue-1 c =
    c.in_ok-push-in-Some-place.ensures.ok ∙ ap (λ (ws : List World). ws ++ c.in-Some-place.world ∷ []) c.places.invariant ∙ sym (worlds_more c.places.yielded c.in-Some-place.world)
    ∙ ap (λ (p : Option World). worlds_in (c.places.yielded ++ p ∷ [])) (sym c.in-Some-place.is)

pub places-preserved : goal.places-preserved
places-preserved c = c.places.invariant ∙ sym (worlds_none c.places.yielded) ∙ ap (λ (p : Option World). worlds_in (c.places.yielded ++ p ∷ [])) (sym c.in-None-place.is)
