use Rattle.heard_items.proofs.Room.{image_joins}
use Rattle.heard_items.proofs.laws.images_join_what_is_held.Goals as goal

pub returns : goal.returns
returns c = image_joins
