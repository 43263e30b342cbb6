use Rattle.drill_client.proofs.Going.{ticked_between}
use Rattle.drill_client.proofs.following.tick.Goals as goal

pub returns : goal.returns
returns c V H E f = (
  c.tick.ensures.asks H E f.tracks,
  record {
    tracks = c.tick.ensures.tracks H E f.tracks;
    honest = (tt, f.honest);
    keeps = c.tick.ensures.keeps V f.keeps;
    between = ticked_between c.tick.result E f.between;
    bytes = f.bytes;
  },
)
