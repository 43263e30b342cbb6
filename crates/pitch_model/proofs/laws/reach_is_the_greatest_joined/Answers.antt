use Rattle.pitch_model.proofs.Reaching.{reach_is, reach_one}
use Rattle.pitch_model.proofs.laws.reach_is_the_greatest_joined.Goals as goal

pub returns-clause-greatest : goal.returns-clause-greatest
returns-clause-greatest c = reach_is

pub returns-clause-only : goal.returns-clause-only
returns-clause-only c = reach_one
