-- A demo: what is written of it, and how it ends. It reads nothing.
use Rattle.std.specs.Prelude.{ℕ, List, [], Result, Ok, Err}
use Rattle.pitch_io.specs.Putting.{Grows}
use Rattle.stream_print.specs.Putting.{PutsSome}
use Rattle.stream_print.specs.Told.{Told, IsUntouched}
use Rattle.net_edge.specs.Demo.{IsDemo, BreaksDemo}
use Rattle.net_edge.specs.Due.{setting}
use Rattle.net_edge.specs.declared.error.DemoError.{DemoError}
use Rattle.net_edge.specs.declared.error.DemoError.TheVariants as errors
use Rattle.pitch_tool.specs.Devices.{Wires}
use Rattle.pitch_tool.specs.declared.failure.Failure.{Failure}
use Rattle.pitch_tool.specs.declared.failure.Failure.TheVariants as ending

-- a demo ran over the net, and this is its line
abbrev pub RanDemo : (number count : ℕ) → Wires → List ℕ → Type 0
RanDemo number count net line = IsDemo (setting number count) net.calls net.calls' [] line

-- it broke off over the net
abbrev pub BrokeDemo : (number count : ℕ) → Wires → DemoError → Type 0
BrokeDemo number count net error = BreaksDemo (setting number count) net.calls net.calls' error

-- How a demo ends: its line was written; or a prefix of it, where the sink failed; or nothing,
-- where it broke off, as the net failed or memory ran out.
abbrev pub DemoEnds :
    (number count : ℕ) → Result (Unit {0}) Failure → (out : Told) → Wires → Type 0
DemoEnds number count (Ok done) out net =
    (line : List ℕ) × RanDemo number count net line × Grows out.old out.new line
DemoEnds number count (Err ending.Write) out net =
    (line : List ℕ) × RanDemo number count net line × PutsSome out.old out.new line
DemoEnds number count (Err ending.Net) out net =
    IsUntouched out × BrokeDemo number count net errors.NetFault
DemoEnds number count (Err ending.OutOfMemory) out net =
    IsUntouched out × BrokeDemo number count net errors.OutOfMemory
DemoEnds number count (Err _) out net = ⊥
