use Rattle.pitch_model.specs.Image.{image}
use Rattle.drill_client.proofs.following.hear_advertised.Goals as goal

pub returns : goal.returns
returns c V within H E f =
    let law = c.images_of_bytes_are_images.ensures V f.bytes in
    record {
      tracks = c.hear_without_memory.ensures.tracks H E f.tracks;
      honest = (within, f.honest);
      keeps = c.hear_without_memory.ensures.keeps image V law H E f.tracks (within, f.honest) f.keeps;
      between = f.between;
      bytes = f.bytes;
    }
