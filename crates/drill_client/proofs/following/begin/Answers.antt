use Rattle.std.proofs.Common.{[], ◌∷◌}
use Rattle.pitch_model.specs.History.{GrpUp}
use Rattle.pitch_model.specs.Image.{image}
use Rattle.drill_client.proofs.following.begin.Goals as goal

pub returns : goal.returns
returns c V bytes =
    let H = c.args.limit in
    let law = c.images_of_bytes_are_images.ensures V bytes in
    let t1 = c.hear_without_memory.ensures.tracks H [] c.in_ok-client.ensures.tracks in
    record {
      tracks = c.hear_without_memory-2.ensures.tracks H (GrpUp ∷ []) t1;
      honest = (tt, (tt, tt));
      keeps = c.hear_without_memory-2.ensures.keeps image V law H (GrpUp ∷ []) t1 (tt, (tt, tt)) (c.hear_without_memory.ensures.keeps image V law H [] c.in_ok-client.ensures.tracks (tt, tt) (c.in_ok-client.ensures.keeps V));
      between = tt;
      bytes = bytes;
    }
