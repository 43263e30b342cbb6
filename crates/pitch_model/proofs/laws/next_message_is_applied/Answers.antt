use Rattle.pitch_model.proofs.Draining.{next_drains}
use Rattle.pitch_model.proofs.laws.next_message_is_applied.Goals as goal

pub returns : goal.returns
returns c = next_drains
