-- A live client between two calls of its net.
use Rattle.std.specs.Prelude.{◌≡◌, ◌≢◌, ◌⊎◌, ℕ, List, [], ◌∷◌, ◌++◌, Bool, true, false}
use Rattle.std.specs.Prelude.{Option, None, Some, Result, Ok, Err}
use Rattle.pitch_io.specs.Putting.{Grows}
use Rattle.unit_packets.specs.Blocks.{Block}
use Rattle.client_end.specs.Came.{Came, Heard}
use Rattle.line_copies.specs.Standing.{HaveKept}
use Rattle.line_copies.specs.declared.lines.LineCopies.{LineCopies}
use Rattle.stream_print.specs.Putting.{PutsSome}
use Rattle.stream_print.specs.Told.{between}
use Rattle.live_net.specs.LiveCalls.{LiveCall}
use Rattle.live_turns.specs.Turning.{IsNext, TurnsStand}
use Rattle.live_turns.specs.declared.due.Due.{Due}
use Rattle.live_turns.specs.declared.due.Due.TheVariants as to
use Rattle.live_units.specs.Coming.{LiveSetup, UnitCame, live_lines, with_datagram}
use Rattle.live_units.specs.Units.{AllWait, LiveStands, OfLive, waiting_at}
use Rattle.live_units.specs.declared.units.LiveUnits.{LiveUnits}
use Rattle.live_recovery.specs.Counting.{counts_of, with_counted}
use Rattle.live_recovery.specs.Disagreeing.{first_disagreement}
use Rattle.live_recovery.specs.Recovering.{AddsRun, HaveEnded, IsOver, RecoverEnds}
use Rattle.live_recovery.specs.Running.{Now, PassSeconds, Runs, Setup, are_ended, ends_now}
use Rattle.live_recovery.specs.Running.{had_come, ways}
use Rattle.live_recovery.specs.declared.copies.Disagreement.{Disagreement}
use Rattle.live_recovery.specs.declared.error.RecoverError.{RecoverError}
use Rattle.live_recovery.specs.declared.error.RecoverError.TheVariants as errors
use Rattle.live_recovery.specs.declared.recovering.Recovering.{Recovering}

-- what a net and a sink tell: the calls, the newest first, and the bytes that were written
pub record Devices : Type 0 where
  pub calls : Option (List LiveCall)
  pub written : Option (List ℕ)

abbrev pub devices : Option (List LiveCall) → Option (List ℕ) → Devices
devices calls written = record { calls = calls; written = written }

-- what came to some units, and what waits there
abbrev pub now_of : List UnitCame → LiveUnits → Now
now_of came units = record { came = came; waits = λ unit session. waiting_at units unit session }

-- ---- Copies
-- the blocks that came, newest first, each with the unit to which it came
abbrev pub with_heard : ℕ → Came → List Block → List Block
with_heard unit (Heard block) blocks =
    record { unit = unit; sequence = block.sequence; raws = block.raws } ∷ blocks
with_heard unit came blocks = blocks

abbrev pub blocks_came : List UnitCame → List Block
blocks_came [] = []
blocks_came (next ∷ before) = with_heard next.unit next.came (blocks_came before)

-- copies are kept of all that came on lines, and none that came differs
pub record Agree (copies : LineCopies) (came : List UnitCame) : Type 0 where
  pub kept : HaveKept copies (blocks_came came)
  pub none : first_disagreement came ≡ None

-- by what was told of them
abbrev pub Compares : Option Disagreement → LineCopies → List UnitCame → Type 0
Compares None copies came = Agree copies came
Compares (Some d) copies came = first_disagreement came ≡ Some d

-- ---- Where a run stands
-- each call of the run was due; all that came by it came to the units, which printed it, and was
-- counted; the lines of all that had come before the last wait were written
pub record Stands (s : Setup) (start now : Devices) (r : Recovering) (run : List LiveCall)
    (came : List UnitCame) : Type 0 where
  pub adds : AddsRun run start.calls now.calls
  pub runs : Runs s run (now_of came r.units)
  pub units : LiveStands s.listens start.written now.written r.units came
  pub agree : Agree r.copies came
  pub counts : r.counts ≡ counts_of s.listens run
  pub shown : (more : List ℕ) × Grows start.written now.written
      (live_lines s.listens (had_come s run (now_of came r.units) runs) ++ more)

-- the run goes on
pub record GoesOn (s : Setup) (start now : Devices) (r : Recovering) : Type 0 where
  pub run : List LiveCall
  pub came : List UnitCame
  pub stands : Stands s start now r run came
  pub turns : TurnsStand (ways s) (ends_now s (now_of came r.units)) r.turns run

-- a wait is made only where the units have not ended
abbrev pub MayBeMade : Setup → List UnitCame → Due → Type 0
MayBeMade s came (to.Wait more) = are_ended s came ≡ false
MayBeMade s came what = Unit {0}

-- and this is due next, and is made
pub record IsAbout (s : Setup) (start now : Devices) (r : Recovering) (what : Due)
    : Type 0 where
  pub run : List LiveCall
  pub came : List UnitCame
  pub stands : Stands s start now r run came
  pub turns : TurnsStand (ways s) (ends_now s (now_of came r.units)) r.turns run
  pub next : IsNext (ways s) (ends_now s (now_of came r.units)) run r.turns.place what
  pub may : MayBeMade s came what

-- its last call was a wait that was over, or the units have ended where a wait would be due
pub record IsAtEnd (s : Setup) (start now : Devices) (r : Recovering) : Type 0 where
  pub run : List LiveCall
  pub came : List UnitCame
  pub stands : Stands s start now r run came
  pub over : IsOver run ⊎ HaveEnded s run (now_of came r.units)

-- by the answer of a step
abbrev pub Steps : Setup → Result Bool RecoverError → (start now : Devices) → Recovering → Type 0
Steps s (Ok true) start now r = GoesOn s start now r
Steps s (Ok false) start now r = IsAtEnd s start now r
Steps s (Err error) start now r =
    RecoverEnds s (Err error) start.calls now.calls (between start.written now.written)

-- the blocks of a datagram came, and were printed and counted
pub record Hears (r r' : Recovering) (written written' : Option (List ℕ)) (bytes : List ℕ)
    : Type 0 where
  pub units : OfLive r.units written (λ s start came.
      LiveStands s start written' r'.units (with_datagram s bytes came))
  pub waits : AllWait r.units r'.units
  pub counts : OfLive r.units written (λ s start came.
      r'.counts ≡ with_counted s bytes r.counts)
  pub turns : r'.turns ≡ r.turns

-- by why a datagram was not heard: copies differ, and the lines of all that came before it were
-- written; else a prefix of all lines with those of the datagram was
abbrev pub FailsHearing : RecoverError → LiveSetup → (start now : Option (List ℕ)) → List ℕ
    → List UnitCame → Type 0
FailsHearing errors.Net s start now bytes came = ⊥
FailsHearing (errors.Disagree d) s start now bytes came =
    (first_disagreement (with_datagram s bytes came) ≡ Some d)
    × Grows start now (live_lines s came)
FailsHearing error s start now bytes came =
    PutsSome start now (live_lines s (with_datagram s bytes came))

-- since things were so, a second passed for each of the units below a number
pub record SecondsPass (s : Setup) (start written : Option (List ℕ)) (first : Now) (count : ℕ)
    (units : LiveUnits) : Type 0 where
  pub came : List UnitCame
  pub stands : LiveStands s.listens start written units came
  pub passes : PassSeconds s count first (now_of came units)

-- an answer that names no device
abbrev pub NamesNoDevice : {A : Type 0} → Result A RecoverError → Type 0
NamesNoDevice result = (result ≢ Err errors.Net) × (result ≢ Err errors.Write)
