use Rattle.pitch_model.proofs.Images.{image_book}
use Rattle.client_core.proofs.laws.images_of_bytes_are_images.Goals as goal

pub returns : goal.returns
returns c = λ V bytes s. image_book V s bytes
