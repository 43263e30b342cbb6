use Rattle.pitch_model.proofs.ImageRaws.{adds_image, image_bytes, image_raws, image_kinds}
use Rattle.pitch_model.proofs.Images.{image_of_leaves}
use Rattle.pitch_model.proofs.laws.images_make_their_books_anew.Goals as goal

pub returns-clause-raws : goal.returns-clause-raws
returns-clause-raws c = image_raws

pub returns-clause-bytes : goal.returns-clause-bytes
returns-clause-bytes c = image_bytes

pub returns-clause-adds : goal.returns-clause-adds
returns-clause-adds c = adds_image

pub returns-clause-leaves : goal.returns-clause-leaves
returns-clause-leaves c = image_of_leaves

pub returns-clause-kinds : goal.returns-clause-kinds
returns-clause-kinds c = image_kinds
