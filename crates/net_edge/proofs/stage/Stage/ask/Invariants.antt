use Rattle.std.proofs.Common.{◌≡◌, [], List}
use Rattle.pitch_io.specs.Nets.{Call}
use Rattle.net_edge.specs.Due.{Setting}
use Rattle.net_edge.specs.Scene.{Scene}
use Rattle.net_edge.specs.layers.Playing.{DemoAt, answers_of}
use Rattle.net_edge.proofs.Groups.{AsksSome}
use Rattle.net_edge.proofs.stage.Stage.ask.Given as goal

abbrev pub invariant-calls : goal.invariant-calls
invariant-calls g l = record {
  still : g.N.Net.faults l.net ≡ g.N.Net.faults l.fn.net;
  asked : (s : Setting) (base : List Call) (now : Scene) → DemoAt g.V.Venue.is s base (g.N.Net.calls l.fn.net) l.fn.self now → answers_of l.place now ≡ []
      → AsksSome g.V.Venue.is s base (g.N.Net.calls l.net) l.self l.place l.index now;
}
