-- How a run breaks off.
use Rattle.std.specs.Prelude.{◌≡◌, List, [], ◌∷◌, ◌++◌, Option, None, Some}
use Rattle.pitch_io.specs.Nets.{Call, Begin, Send, Next, Put, Take, NetDoneFailed, NetTakeFailed}
use Rattle.pitch_io.specs.Putting.{PutFailed}
use Rattle.net_edge.specs.Acting.{scene_of}
use Rattle.net_edge.specs.Due.{Setting}
use Rattle.net_edge.specs.Scene.{Scene}
use Rattle.net_edge.specs.Steps.{Step, calls_of}
use Rattle.net_edge.specs.Turns.{MayCall, AreSteps}
use Rattle.net_edge.specs.declared.error.DemoError.{DemoError}
use Rattle.net_edge.specs.declared.error.DemoError.TheVariants as errors

-- the net failed a call, which is none of `begin`: that comes before a run alone
abbrev pub HasFailed : Call → Type 0
HasFailed (Begin answer) = ⊥
HasFailed (Send line datagram answer) = NetDoneFailed answer
HasFailed (Next line room bytes answer) = NetTakeFailed answer
HasFailed (Put at piece answer) = PutFailed answer
HasFailed (Take at room bytes answer) = NetTakeFailed answer

-- the calls with which a run broke off that had come to a scene: where the net failed there is one,
-- which might come, and which failed; where memory ran out there is none
abbrev pub BreaksOff : Setting → DemoError → List Call → Scene → Type 0
BreaksOff s errors.NetFault (call ∷ []) now = HasFailed call × MayCall s call now
BreaksOff s errors.OutOfMemory [] now = Unit {0}
BreaksOff s error calls now = ⊥

-- where the net lists its calls, these were added, the newest first
abbrev pub ListsAdded : List Call → Option (List Call) → List Call → Type 0
ListsAdded base None added = Unit {0}
ListsAdded base (Some calls) added = calls ≡ added ++ base

-- the net's calls, where it lists them, are those of a run that broke off, and those before it
pub record Breaks (s : Setting)
    (base : List Call) (calls : Option (List Call)) (error : DemoError) : Type 0 where
  pub run : List Step
  pub steps : AreSteps s run
  pub failed : List Call
  pub broke : BreaksOff s error failed (scene_of s run)
  pub told : ListsAdded base calls (failed ++ calls_of run)
