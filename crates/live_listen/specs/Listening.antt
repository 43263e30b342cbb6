-- How a listener ends, and what it has written by then.
use Rattle.std.specs.Prelude.{◌≡◌, ◌≤◌, ℕ, List, [], ◌∷◌, ◌++◌, Option, None, Some}
use Rattle.std.specs.Prelude.{Result, Ok, Err, ◌⊎◌}
use Rattle.pitch_io.specs.Putting.{Grows}
use Rattle.unit_packets.specs.Blocks.{Block}
use Rattle.feed_lines.specs.Follow.{lines_after}
use Rattle.stream_print.specs.Followed.{IsFollowed}
use Rattle.stream_print.specs.Told.{Told}
use Rattle.live_net.specs.LineCalls.{LineCall, Wait, Receive}
use Rattle.live_net.specs.declared.net.Woken.TheVariants as woken
use Rattle.live_net.specs.declared.net.Received.TheVariants as received
use Rattle.live_listen.specs.Due.{AreDue}
use Rattle.live_listen.specs.Heard.{datagrams_of, blocks_heard}
use Rattle.live_listen.specs.Counting.{counts_of}
use Rattle.live_listen.specs.declared.counts.Counts.{Counts}
use Rattle.live_listen.specs.declared.error.ListenError.{ListenError}
use Rattle.live_listen.specs.declared.error.ListenError.TheVariants as errors

-- how many lines there are, which units are listened to (every unit, where none is named), and how
-- many messages the client of each holds
pub record Setup : Type 0 where
  pub lines : ℕ
  pub units : List ℕ
  pub hold : ℕ

-- there is a line
abbrev pub CanListen : (lines : ℕ) → Type 0
CanListen lines = 1 ≤ lines

abbrev pub heard_of : Setup → List LineCall → List Block
heard_of s run = blocks_heard s.units (datagrams_of run)

-- where the net lists its calls after a run, it listed them before, and those of the run were added
abbrev pub AddsRun : List LineCall → Option (List LineCall) → Option (List LineCall) → Type 0
AddsRun run old None = Unit {0}
AddsRun run None (Some calls) = ⊥
AddsRun run (Some before) (Some calls) = calls ≡ run ++ before

-- the calls before the last wait of a run
abbrev pub before_wait : List LineCall → List LineCall
before_wait [] = []
before_wait (Wait more answer ∷ before) = before
before_wait (call ∷ before) = before_wait before

-- the lines of all that had come before the last wait
abbrev pub lines_shown : Setup → List LineCall → List ℕ
lines_shown s run = lines_after s.hold [] (heard_of s (before_wait run))

-- a run of a listener: its calls, each of which was due, and the text that was written; however it
-- ended, what was written begins with the lines of all that had come before the last wait
pub record IsRun (s : Setup) (calls calls' : Option (List LineCall)) (out : Told)
    (run : List LineCall) (text : List ℕ) : Type 0 where
  pub adds : AddsRun run calls calls'
  pub due : AreDue s.lines run
  pub writes : Grows out.old out.new text
  pub shows : (more : List ℕ) × Grows out.old out.new (lines_shown s run ++ more)

-- the lines of all blocks, and no book
abbrev pub AreLines : ℕ → List Block → List ℕ → Type 0
AreLines H blocks text = text ≡ lines_after H [] blocks

-- a prefix of the lines, or of the whole text, in which the books of all units follow them
abbrev pub BeginsText : ℕ → List Block → List ℕ → Type 0
BeginsText H blocks text =
    ((more : List ℕ) × (lines_after H [] blocks ≡ text ++ more))
    ⊎ ((more : List ℕ) × IsFollowed H blocks (text ++ more))

-- the last call was a wait that was over; a call that failed
abbrev pub IsOver : List LineCall → Type 0
IsOver (Wait more woken.Over ∷ before) = Unit {0}
IsOver run = ⊥

abbrev pub HasFailed : List LineCall → Type 0
HasFailed (Wait more woken.Failed ∷ before) = Unit {0}
HasFailed (Receive line room bytes received.Failed ∷ before) = Unit {0}
HasFailed run = ⊥

-- at the end the whole text of `follow` was written, with the books of all units, and what came was
-- counted
pub record IsDone (s : Setup) (counts : Counts) (run : List LineCall) (text : List ℕ) : Type 0 where
  pub over : IsOver run
  pub text_is : IsFollowed s.hold (heard_of s run) text
  pub counts_are : counts ≡ counts_of s.units (datagrams_of run)

-- the net failed: the lines of all blocks that were heard were written
pub record IsCutOff (s : Setup) (run : List LineCall) (text : List ℕ) : Type 0 where
  pub failed : HasFailed run
  pub text_is : AreLines s.hold (heard_of s run) text

-- by the answer
abbrev pub IsEnd : Setup → Result Counts ListenError → List LineCall → List ℕ → Type 0
IsEnd s (Ok counts) run text = IsDone s counts run text
IsEnd s (Err errors.Net) run text = IsCutOff s run text
IsEnd s (Err errors.Write) run text = BeginsText s.hold (heard_of s run) text
IsEnd s (Err errors.OutOfMemory) run text = BeginsText s.hold (heard_of s run) text

-- there is such a run, and such a text was written
pub record ListenEnds (s : Setup) (result : Result Counts ListenError)
    (calls calls' : Option (List LineCall)) (out : Told) : Type 0 where
  pub run : List LineCall
  pub text : List ℕ
  pub is_run : IsRun s calls calls' out run text
  pub is_end : IsEnd s result run text
