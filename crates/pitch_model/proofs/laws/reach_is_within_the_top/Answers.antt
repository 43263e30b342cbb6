use Rattle.pitch_model.proofs.Topmost.{reach_le_top}
use Rattle.pitch_model.proofs.laws.reach_is_within_the_top.Goals as goal

pub returns : goal.returns
returns c = reach_le_top
