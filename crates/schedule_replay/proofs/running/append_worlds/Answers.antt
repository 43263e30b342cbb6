use Rattle.std.proofs.Common.{List, ◌++◌, ap, ◌∙◌}
use Rattle.std.proofs.lemmas.Result.{on_ok_weaker}
use Rattle.world_model.specs.declared.world.World.{World}
use Rattle.schedule_replay.proofs.running.append_worlds.Goals as goal

pub returns-clause-ok : goal.returns-clause-ok
returns-clause-ok c =
    on_ok_weaker c.append.result
    (λ put. put ∙ ap (λ (l : List World). c.args.worlds.now.items ++ l) (c.into_vec.ensures ∙ c.in_ok-added.ensures)) c.append.ensures.ok
