use Rattle.std.proofs.Common.{ap, ◌∙◌, add-one}
use Rattle.pitch_model.specs.Reach.{is_seen, reach_of}
use Rattle.pitch_model.proofs.Reaching.{anchors_up_to_reach, next_unseen}
use Rattle.pitch_model.proofs.laws.reach_is_closed.Goals as goal

pub returns-clause-anchors : goal.returns-clause-anchors
returns-clause-anchors c = anchors_up_to_reach

pub returns-clause-next : goal.returns-clause-next
returns-clause-next c = λ P. ap (is_seen P) (add-one (reach_of P)) ∙ next_unseen P
