use Rattle.pitch_model.proofs.Growing.{book_more, image_more, honest_more}
use Rattle.pitch_model.proofs.laws.venues_only_grow.Goals as goal

pub returns-clause-book : goal.returns-clause-book
returns-clause-book c = book_more

pub returns-clause-image : goal.returns-clause-image
returns-clause-image c = image_more

pub returns-clause-honest : goal.returns-clause-honest
returns-clause-honest c = honest_more
