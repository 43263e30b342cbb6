use Rattle.std.proofs.Common.{reverse, subst}
use Rattle.world_model.specs.Stands.{WorldStands}
use Rattle.world_model.specs.declared.limits.Limits.{Limits}
use Rattle.storm_replay.specs.layers.Units.{unit_course}
use Rattle.storm_replay.proofs.units.done_world.Goals as goal

pub returns-in-Ok : goal.returns-in-Ok
returns-in-Ok c =
    subst (λ (l : Limits). WorldStands c.do_course.new.world c.args.unit l (reverse (unit_course c.args.number c.args.unit c.args.steps))) c.default_limits.ensures.limits (c.in-Ok.ensures c.default_limits.result c.in_ok-world.ensures.stands)
