use Rattle.std.proofs.Common.{◌≡◌, ◌≤◌, ◌-◌, List, length, take}
use Rattle.pitch_io.specs.Nets.{Call}
use Rattle.net_edge.specs.Acting.{end_puts}
use Rattle.net_edge.specs.Due.{Setting}
use Rattle.net_edge.specs.layers.Playing.{Plays}
use Rattle.net_edge.specs.Scene.{Scene, waits_at}
use Rattle.net_edge.proofs.putting.put_whole.Given as goal

abbrev pub invariant-puts : goal.invariant-puts
invariant-puts g l = record {
  within : l.done ≤ length l.bytes;
  plays : (s : Setting) (base : List Call) (now : Scene) → l.bytes ≡ waits_at l.at now.world → Plays s base (g.N.Net.calls l.fn.net) now → Plays s base (g.N.Net.calls l.net) (end_puts l.at (take l.done l.bytes) now);
  still : g.N.Net.faults l.net ≡ g.N.Net.faults l.fn.net;
}

abbrev pub decreases-puts : goal.decreases-puts
decreases-puts g l = length l.bytes - l.done
