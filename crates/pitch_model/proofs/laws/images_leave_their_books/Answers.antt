use Rattle.pitch_model.proofs.ImageRaws.{image_promised}
use Rattle.pitch_model.proofs.Images.{image_is, image_book}
use Rattle.pitch_model.proofs.laws.images_leave_their_books.Goals as goal

pub returns-clause-of_book : goal.returns-clause-of_book
returns-clause-of_book c = image_is

pub returns-clause-leaves : goal.returns-clause-leaves
returns-clause-leaves c = image_book

pub returns-clause-promise : goal.returns-clause-promise
returns-clause-promise c = image_promised
