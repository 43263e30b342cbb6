use Rattle.std.proofs.Common.{Bool, ◌∷◌, subst}
use Rattle.pitch_model.specs.History.{GapReply}
use Rattle.pitch_model.specs.Image.{image}
use Rattle.client_core.specs.Tracks.{Tracks}
use Rattle.drill_client.proofs.following.hear_gap_reply.Goals as goal

pub returns : goal.returns
returns c V H E f =
    let law = c.images_of_bytes_are_images.ensures V f.bytes in
    record {
      tracks = subst (λ (b : Bool). Tracks c.hear_without_memory.new.client H (GapReply b ∷ E)) c.status_of-status.ensures (c.hear_without_memory.ensures.tracks H E f.tracks);
      honest = (tt, f.honest);
      keeps = c.hear_without_memory.ensures.keeps image V law H E f.tracks (tt, f.honest) f.keeps;
      between = f.between;
      bytes = f.bytes;
    }
