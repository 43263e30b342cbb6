use Rattle.pitch_model.specs.Image.{image}
use Rattle.drill_client.specs.layers.Following.{ImageParts}
use Rattle.drill_client.proofs.Going.{image_honest, image_between}
use Rattle.drill_client.proofs.following.hear_image.Goals as goal

pub returns : goal.returns
returns c V is H E f =
    let law = c.images_of_bytes_are_images.ensures V f.bytes in
    let parts : ImageParts = record { sequence = c.args.sequence; orders = c.args.orders; raws = c.args.raws.items } in
    let honest = image_honest V parts E is f.between f.honest in
    record {
      tracks = c.in_ok-hear_whole.ensures.tracks H E f.tracks;
      honest = honest;
      keeps = c.in_ok-hear_whole.ensures.keeps image V law H E f.tracks honest f.keeps;
      between = image_between parts.sequence parts.orders parts.raws E f.between;
      bytes = f.bytes;
    }
