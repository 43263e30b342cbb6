-- The steps of a run of both ends over a net. A run has its newest step first.
use Rattle.std.specs.Prelude.{ℕ, List, [], ◌∷◌}
use Rattle.std.specs.List.{flat_map}
use Rattle.pitch_io.specs.declared.line.Line.TheVariants.{B}
use Rattle.pitch_io.specs.declared.net.NetDone.{NetDone}
use Rattle.pitch_io.specs.Nets.{Call, Send}

pub data Step : Type 0 where
  -- a call of the net
  Did : (call : Call) → Step
  -- the turn's heartbeat is sent on line B, and the turn's tick comes right after
  Beat : (heartbeat : List ℕ) → (answer : NetDone) → Step
  -- the turn is over, and the next one begins
  Turn : Step

-- the call of a step, as a list of one or none
abbrev pub call_at : Step → List Call
call_at (Did call) = call ∷ []
call_at (Beat heartbeat answer) = Send B heartbeat answer ∷ []
call_at Turn = []

-- the calls of a run
abbrev pub calls_of : List Step → List Call
calls_of run = flat_map call_at run
