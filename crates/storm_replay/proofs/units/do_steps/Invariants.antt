use Rattle.std.proofs.Common.{List, ◌++◌, reverse}
use Rattle.pitch_text.specs.declared.verb.Verb.{Verb}
use Rattle.storm_replay.specs.layers.Units.{unit_steps}
use Rattle.world_model.specs.Stands.{WorldStands}
use Rattle.world_model.specs.declared.limits.Limits.{Limits}
use Rattle.storm_replay.proofs.units.do_steps.Given as goal

abbrev pub invariant-steps : goal.invariant-steps
invariant-steps l = (limits : Limits) (done : List Verb) → WorldStands l.fn.world l.unit limits done → WorldStands l.world l.unit limits (reverse (unit_steps l.number l.unit l.index) ++ done)
