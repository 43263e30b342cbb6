use Rattle.std.proofs.Common.{ℕ, List, ◌++◌, reverse, take}
use Rattle.pitch_text.specs.declared.verb.Verb.{Verb}
use Rattle.world_model.specs.Stands.{WorldStands}
use Rattle.world_model.specs.declared.limits.Limits.{Limits}
use Rattle.storm_replay.proofs.units.do_verbs.Given as goal

abbrev pub invariant-verbs : goal.invariant-verbs
invariant-verbs l = (unit : ℕ) (limits : Limits) (done : List Verb) → WorldStands l.fn.world unit limits done → WorldStands l.world unit limits (reverse (take l.verb-index l.verbs) ++ done)
