-- How a live client ends, and what it has written by then.
use Rattle.std.specs.Prelude.{◌≡◌, ◌⊎◌, ℕ, Bool, true, List, ◌∷◌, ◌++◌, Option, None, Some}
use Rattle.std.specs.Prelude.{Result, Ok, Err}
use Rattle.pitch_io.specs.Putting.{Grows}
use Rattle.stream_print.specs.Told.{Told}
use Rattle.live_net.specs.LiveCalls.{LiveCall, Wait, Receive}
use Rattle.live_net.specs.declared.net.Received.TheVariants as received
use Rattle.live_net.specs.declared.live.WaitEnd.TheVariants as wait_end
use Rattle.live_turns.specs.Due.{due}
use Rattle.live_turns.specs.declared.due.Due.TheVariants as to
use Rattle.pitch_model.specs.History.{Raw}
use Rattle.live_units.specs.Coming.{UnitCame, IsHonestAt, IsLiveText, BeginsLiveText}
use Rattle.live_units.specs.Coming.{live_lines, with_datagram}
use Rattle.live_recovery.specs.Counting.{counts_of}
use Rattle.live_recovery.specs.Disagreeing.{first_disagreement}
use Rattle.live_recovery.specs.Running.{Now, Runs, Setup, are_ended, ends_now, had_come, ways}
use Rattle.live_recovery.specs.declared.copies.Disagreement.{Disagreement}
use Rattle.live_recovery.specs.declared.counts.Counts.{Counts}
use Rattle.live_recovery.specs.declared.error.RecoverError.{RecoverError}
use Rattle.live_recovery.specs.declared.error.RecoverError.TheVariants as errors

-- where the net lists its calls after a run, it listed them before, and those of the run were added
abbrev pub AddsRun : List LiveCall → Option (List LiveCall) → Option (List LiveCall) → Type 0
AddsRun run old None = Unit {0}
AddsRun run None (Some calls) = ⊥
AddsRun run (Some before) (Some calls) = calls ≡ run ++ before

-- a run of a live client: its calls, each of which was due, what came by them, and the text that
-- was written; however it ended, what was written begins with the lines of all that had come before
-- the last wait
pub record IsRun (s : Setup) (calls calls' : Option (List LiveCall)) (out : Told)
    (run : List LiveCall) (now : Now) (text : List ℕ) : Type 0 where
  pub adds : AddsRun run calls calls'
  pub runs : Runs s run now
  pub writes : Grows out.old out.new text
  pub shows : (more : List ℕ)
      × Grows out.old out.new (live_lines s.listens (had_come s run now runs) ++ more)

-- the last call was a wait that was over; a call that failed
abbrev pub IsOver : List LiveCall → Type 0
IsOver (Wait more wait_end.Over ∷ before) = Unit {0}
IsOver run = ⊥

abbrev pub HasFailed : List LiveCall → Type 0
HasFailed (Wait more wait_end.Failed ∷ before) = Unit {0}
HasFailed (Receive line room bytes received.Failed ∷ before) = Unit {0}
HasFailed run = ⊥

-- the last call brought this datagram
abbrev pub HasBrought : List ℕ → List LiveCall → Type 0
HasBrought datagram (Receive line room bytes (received.Got n) ∷ before) = datagram ≡ bytes
HasBrought datagram run = ⊥

-- each unit has ended, where units are named, and a wait would be the next call
pub record HaveEnded (s : Setup) (run : List LiveCall) (now : Now) : Type 0 where
  pub are : are_ended s now.came ≡ true
  pub more : Bool
  pub is_due : due (ways s) (ends_now s now) run ≡ Some (to.Wait more)

-- at the end the whole text was written: the lines of all that came, and the books of all units, of
-- which each is that of exactly its venue's first n messages, n its reach, for every venue of which
-- the unit's history speaks honestly; no copies differ, and what came was counted
pub record IsDone (s : Setup) (counts : Counts) (run : List LiveCall) (now : Now)
    (text : List ℕ) : Type 0 where
  pub over : IsOver run ⊎ HaveEnded s run now
  pub agreed : first_disagreement now.came ≡ None
  pub text_is : IsLiveText s.listens now.came text
  pub counts_are : counts ≡ counts_of s.listens run

-- the net failed: the lines of all that came were written
pub record IsCutOff (s : Setup) (run : List LiveCall) (now : Now) (text : List ℕ)
    : Type 0 where
  pub failed : HasFailed run
  pub agreed : first_disagreement now.came ≡ None
  pub text_is : text ≡ live_lines s.listens now.came

-- copies differ of which the second came with the last datagram: the lines of all that came before
-- it were written, and what then has come to the unit of the copies speaks honestly of no venue
pub record HaveDisagreed (s : Setup) (d : Disagreement) (run : List LiveCall) (now : Now)
    (text : List ℕ) : Type 0 where
  pub before : List UnitCame
  pub datagram : List ℕ
  pub last : HasBrought datagram run
  pub came_is : now.came ≡ with_datagram s.listens datagram before
  pub told : first_disagreement now.came ≡ Some d
  pub text_is : text ≡ live_lines s.listens before
  pub of_none : (V : List Raw) → IsHonestAt s.listens now.came d.unit V → ⊥

-- by the answer: else a prefix of the whole text was
abbrev pub IsEnd : Setup → Result Counts RecoverError → List LiveCall → Now → List ℕ → Type 0
IsEnd s (Ok counts) run now text = IsDone s counts run now text
IsEnd s (Err errors.Net) run now text = IsCutOff s run now text
IsEnd s (Err errors.Write) run now text = BeginsLiveText s.listens now.came text
IsEnd s (Err errors.OutOfMemory) run now text = BeginsLiveText s.listens now.came text
IsEnd s (Err (errors.Disagree d)) run now text = HaveDisagreed s d run now text

-- there is such a run, and such a text was written
pub record RecoverEnds (s : Setup) (result : Result Counts RecoverError)
    (calls calls' : Option (List LiveCall)) (out : Told) : Type 0 where
  pub run : List LiveCall
  pub now : Now
  pub text : List ℕ
  pub is_run : IsRun s calls calls' out run now text
  pub is_end : IsEnd s result run now text
