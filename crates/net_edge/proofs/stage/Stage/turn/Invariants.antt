use Rattle.std.proofs.Common.{◌≡◌, List}
use Rattle.pitch_io.specs.Nets.{Call}
use Rattle.net_edge.specs.Due.{setting}
use Rattle.net_edge.specs.Scene.{Scene}
use Rattle.net_edge.specs.layers.Playing.{TurnBegins}
use Rattle.net_edge.proofs.Turning.{InTurn}
use Rattle.net_edge.proofs.stage.Stage.turn.Given as goal

abbrev pub invariant-places : goal.invariant-places
invariant-places g l = record {
  still : g.N.Net.faults l.net ≡ g.N.Net.faults l.fn.net;
  asked : (base : List Call) (now : Scene) → TurnBegins g.V.Venue.is (setting l.number l.count) base (g.N.Net.calls l.fn.net) l.fn.self l.turn now
      → InTurn g.V.Venue.is (setting l.number l.count) base (g.N.Net.calls l.net) l.self l.turn l.place-index;
}
