-- A demo's line, or a prefix of it.
use Rattle.std.proofs.Common.{◌≡◌, ℕ, List, [], Option, Result, Ok, Err, sym, subst, true≢false}
use Rattle.std.specs.Result.{IsErr, IsErrAnd}
use Rattle.stream_print.specs.Putting.{PutsSome}
use Rattle.stream_print.specs.Told.{Told, IsUntouched}
use Rattle.net_edge.specs.Demo.{IsDemo}
use Rattle.net_edge.specs.Due.{setting}
use Rattle.net_edge.specs.declared.error.DemoError.{DemoError}
use Rattle.net_edge.specs.declared.error.DemoError.TheVariants as errors
use Rattle.pitch_tool.specs.DemoForm.{RanDemo, BrokeDemo, DemoEnds}
use Rattle.pitch_tool.specs.layers.Failures.{of_demo}
use Rattle.pitch_tool.specs.Devices.{Wires}
use Rattle.pitch_tool.specs.declared.failure.Failure.{Failure}
use Rattle.pitch_tool.specs.declared.failure.Failure.TheVariants as ending

ran : (number count : ℕ) (net : Wires) (text line : List ℕ) → text ≡ [] → IsDemo (setting number count) net.calls net.calls' text line → RanDemo number count net line
ran number count net text line none is = subst (λ (t : List ℕ). IsDemo (setting number count) net.calls net.calls' t line) none is

pub writes_some_line : (number count : ℕ) (old new : Option (List ℕ)) (net : Wires) (text line bytes : List ℕ) → text ≡ [] → bytes ≡ line
    → IsDemo (setting number count) net.calls net.calls' text line → PutsSome old new bytes → (l : List ℕ) × RanDemo number count net l × PutsSome old new l
writes_some_line number count old new net text line bytes none same is some = (line, ran number count net text line none is, subst (λ (l : List ℕ). PutsSome old new l) same some)

-- what broke off over the net
pub broke_off : (number count : ℕ) (out : Told) (net : Wires) (r : Result (Unit {0}) Failure) (error : DemoError) → IsErr r × IsErrAnd r (λ failure. failure ≡ of_demo error)
    → IsUntouched out → BrokeDemo number count net error → DemoEnds number count r out net
broke_off number count out net (Ok done) error failed untouched broke = absurd (true≢false (sym failed.0))
broke_off number count out net (Err failure) error failed untouched broke = subst (λ (f : Failure). DemoEnds number count (Err f) out net) (sym failed.1) (by error broke)
  where
    by : (e : DemoError) → BrokeDemo number count net e → DemoEnds number count (Err (of_demo e)) out net
    by errors.NetFault broke = (untouched, broke)
    by errors.OutOfMemory broke = (untouched, broke)

-- what ended by a failure of the sink
pub cut_off : (number count : ℕ) (out : Told) (net : Wires) (r : Result (Unit {0}) Failure) → IsErr r × IsErrAnd r (λ failure. failure ≡ ending.Write)
    → DemoEnds number count (Err ending.Write) out net → DemoEnds number count r out net
cut_off number count out net (Ok done) failed ends = absurd (true≢false (sym failed.0))
cut_off number count out net (Err failure) failed ends = subst (λ (f : Failure). DemoEnds number count (Err f) out net) (sym failed.1) ends
