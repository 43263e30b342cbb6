use Rattle.std.proofs.Common.{◌≡◌, ◌+◌, ◌-◌, ◌≤◌, List}
use Rattle.pitch_io.specs.Nets.{Call}
use Rattle.net_edge.specs.Due.{setting}
use Rattle.net_edge.specs.Scene.{Scene}
use Rattle.net_edge.specs.layers.Playing.{TurnBegins, TurnEnds}
use Rattle.net_edge.proofs.running.run.Given as goal

abbrev pub invariant-turns : goal.invariant-turns
invariant-turns g l = record {
  least : 1 ≤ l.turn;
  most : l.turn ≤ l.count + 200;
  still : g.N.Net.faults l.net ≡ g.N.Net.faults l.fn.net;
  ran : (base : List Call) (now : Scene) → TurnBegins g.V.Venue.is (setting l.number l.count) base (g.N.Net.calls l.fn.net) l.fn.stage 1 now → TurnEnds g.V.Venue.is (setting l.number l.count) base (g.N.Net.calls l.net) l.stage l.turn;
}

abbrev pub decreases-turns : goal.decreases-turns
decreases-turns g l = (l.count + 200) - l.turn
