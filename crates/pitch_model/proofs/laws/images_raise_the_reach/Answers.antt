use Rattle.pitch_model.proofs.Recovering.{image_raises}
use Rattle.pitch_model.proofs.laws.images_raise_the_reach.Goals as goal

pub returns : goal.returns
returns c = image_raises
