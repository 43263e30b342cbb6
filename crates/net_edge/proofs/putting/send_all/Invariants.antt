use Rattle.std.proofs.Common.{◌≡◌, List, take}
use Rattle.pitch_io.specs.Nets.{Call}
use Rattle.unit_packets.specs.Packing.{bytes_in}
use Rattle.net_edge.specs.Acting.{sent_on}
use Rattle.net_edge.specs.Due.{Setting, AreDuePieces}
use Rattle.net_edge.specs.layers.Playing.{Plays}
use Rattle.net_edge.specs.Scene.{Scene}
use Rattle.net_edge.proofs.putting.send_all.Given as goal

abbrev pub invariant-sends : goal.invariant-sends
invariant-sends g l = record {
  plays : (s : Setting) (base : List Call) (now : Scene) → Plays s base (g.N.Net.calls l.fn.net) now → AreDuePieces s now.turn (bytes_in l.datagrams) → Plays s base (g.N.Net.calls l.net) (sent_on l.line (bytes_in (take l.datagram-index l.datagrams)) now);
  still : g.N.Net.faults l.net ≡ g.N.Net.faults l.fn.net;
}
