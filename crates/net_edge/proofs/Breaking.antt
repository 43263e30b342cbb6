-- Where a run breaks off.
use Rattle.std.proofs.Common.{List, [], ◌∷◌, Option, sym, subst}
use Rattle.pitch_io.specs.Nets.{Call}
use Rattle.pitch_io.specs.layers.Coming.{ListsCall}
use Rattle.net_edge.specs.Breaking.{HasFailed, Breaks}
use Rattle.net_edge.specs.Due.{Setting}
use Rattle.net_edge.specs.layers.Playing.{Plays}
use Rattle.net_edge.specs.Scene.{Scene}
use Rattle.net_edge.specs.Steps.{calls_of}
use Rattle.net_edge.specs.Turns.{MayCall}
use Rattle.net_edge.specs.declared.error.DemoError.TheVariants as errors
use Rattle.net_edge.proofs.Runs.{told_then}

-- memory ran out
pub breaks_here : (s : Setting) (base : List Call) (calls : Option (List Call)) (now : Scene) → Plays s base calls now → Breaks s base calls errors.OutOfMemory
breaks_here s base calls now plays = record {
  run = plays.0;
  steps = plays.1.steps;
  failed = [];
  broke = tt;
  told = plays.1.told;
}

-- the net failed a call that might come
pub breaks_by : (s : Setting) (base : List Call) (calls calls' : Option (List Call)) (now : Scene) (call : Call) → ListsCall calls calls' call → HasFailed call → MayCall s call now → Plays s base calls now → Breaks s base calls' errors.NetFault
breaks_by s base calls calls' now call lists failed may plays = record {
  run = plays.0;
  steps = plays.1.steps;
  failed = call ∷ [];
  broke = (failed, subst (MayCall s call) (sym plays.1.now_is) may);
  told = told_then base calls calls' call (calls_of plays.0) plays.1.told lists;
}
