-- A net of lines and peers as one of lines alone.
use Rattle.std.specs.Prelude.{List, [], ◌∷◌, Option, option_map}
use Rattle.live_net.specs.LineCalls.{LineCall}
use Rattle.live_net.specs.LineCalls as line
use Rattle.live_net.specs.LiveCalls.{LiveCall, Wait, Receive}
use Rattle.live_net.specs.declared.live.WaitEnd.{WaitEnd}
use Rattle.live_net.specs.declared.live.WaitEnd.TheVariants as wait_end
use Rattle.live_net.specs.declared.net.Woken.{Woken}
use Rattle.live_net.specs.declared.net.Woken.TheVariants as woken

-- a wait that tells no second
abbrev pub woken_by : WaitEnd → Woken
woken_by wait_end.Ready = woken.Ready
woken_by wait_end.Second = woken.Ready
woken_by wait_end.Over = woken.Over
woken_by wait_end.Failed = woken.Failed

-- the waits and what was asked of lines, among these calls
abbrev pub calls_of_lines : List LiveCall → List LineCall
calls_of_lines [] = []
calls_of_lines (Wait more answer ∷ calls) = line.Wait more (woken_by answer) ∷ calls_of_lines calls
calls_of_lines (Receive on room bytes answer ∷ calls) =
    line.Receive on room bytes answer ∷ calls_of_lines calls
calls_of_lines (call ∷ calls) = calls_of_lines calls

-- the same of a net that may list its calls
abbrev pub line_calls : Option (List LiveCall) → Option (List LineCall)
line_calls calls = option_map calls_of_lines calls
