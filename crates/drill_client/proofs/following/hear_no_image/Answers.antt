use Rattle.pitch_model.specs.Image.{image}
use Rattle.drill_client.proofs.Going.{refused_between}
use Rattle.drill_client.proofs.following.hear_no_image.Goals as goal

pub returns : goal.returns
returns c V H E f =
    let law = c.images_of_bytes_are_images.ensures V f.bytes in
    record {
      tracks = c.hear_without_memory.ensures.tracks H E f.tracks;
      honest = (tt, f.honest);
      keeps = c.hear_without_memory.ensures.keeps image V law H E f.tracks (tt, f.honest) f.keeps;
      between = refused_between c.args.sequence 0 E f.between;
      bytes = f.bytes;
    }
