use Rattle.world_model.proofs.Sounding.{every_state_is_sound}
use Rattle.world_laws.proofs.Reached.{line_pieces, reached_whole, sayable_verbs}
use Rattle.world_laws.proofs.laws.every_state_is_sound.Goals as goal

pub returns-clause-sound : goal.returns-clause-sound
returns-clause-sound c = λ unit limits done small all. every_state_is_sound unit limits done

pub returns-clause-pieces : goal.returns-clause-pieces
returns-clause-pieces c = λ unit limits done line small all. line_pieces unit small limits done (sayable_verbs done all) line

pub returns-clause-whole : goal.returns-clause-whole
returns-clause-whole c = λ unit limits done small all. reached_whole unit small limits done (sayable_verbs done all)
