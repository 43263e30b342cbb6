use Rattle.pitch_model.proofs.Honesty.{honest_top}
use Rattle.pitch_model.proofs.laws.honest_histories_stay_within_the_venue.Goals as goal

pub returns : goal.returns
returns c = honest_top
