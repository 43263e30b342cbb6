use Rattle.std.proofs.Common.{List, Option, sym, ap, ◌∙◌, arith}
use Rattle.std.specs.List.{slice_get}
use Rattle.world_model.specs.declared.world.World.{World}
use Rattle.schedule_replay.proofs.Places.{none_more}
use Rattle.schedule_replay.proofs.running.no_worlds.Goals as goal

pub places-preserved : goal.places-preserved
places-preserved c = record {
  many = omega (arith, c.places.invariant.many, c.in_ok-push.ensures.len);
  none = λ unit place at. none_more c.places.places.items unit place c.places.invariant.none (ap (λ (l : List (Option World)). slice_get l unit) (sym c.in_ok-push.ensures.items) ∙ at);
}
