use Rattle.pitch_model.proofs.Draining.{taken_drains}
use Rattle.pitch_model.proofs.Entries.{stale_same}
use Rattle.pitch_model.proofs.laws.images_are_taken_above_the_reach.Goals as goal

pub returns-clause-taken : goal.returns-clause-taken
returns-clause-taken c = taken_drains

pub returns-clause-stale : goal.returns-clause-stale
returns-clause-stale c = stale_same
