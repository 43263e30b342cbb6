use Rattle.pitch_model.proofs.Rises.{reach_rises}
use Rattle.pitch_model.proofs.laws.reach_never_falls.Goals as goal

pub returns : goal.returns
returns c = reach_rises
