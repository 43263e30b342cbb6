use Rattle.pitch_model.proofs.Counting.{held_few}
use Rattle.pitch_model.proofs.laws.held_is_within_the_limit.Goals as goal

pub returns : goal.returns
returns c = held_few
