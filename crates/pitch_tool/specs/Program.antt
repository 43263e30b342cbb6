-- The program: what it says, and how it ends.
use Rattle.std.specs.Prelude.{◌≡◌, ◌≢◌, false, ℕ, List, ◌++◌, codes, Result, Ok, Err, ◌⊎◌}
use Rattle.pitch_io.specs.Causes.{HasCause}
use Rattle.pitch_words.specs.Forms.{IsForm}
use Rattle.pitch_words.specs.declared.form.Form.{Form}
use Rattle.unit_packets.specs.Causes.{fault_text}
use Rattle.pcap_feed.specs.Causes.{capture_fault_text}
use Rattle.command_feed.specs.Causes.{command_error_text}
use Rattle.run_audit.specs.Causes.{audit_fault_text}
use Rattle.schedule_replay.specs.Causes.{replay_error_text}
use Rattle.stream_print.specs.Told.{Told, IsUntouched}
use Rattle.stream_print.specs.declared.failure.StreamTrouble.TheVariants.{Faulty, BadCapture}
use Rattle.stream_print.specs.declared.failure.StreamTrouble.TheVariants.{TooLong}
use Rattle.pitch_tool.specs.Devices.{Run, Says, Wires, IsUncalled}
use Rattle.pitch_tool.specs.Jobs.{uses_net, JobEnds, StopsInTime}
use Rattle.pitch_tool.specs.declared.failure.Failure.{Failure}
use Rattle.pitch_tool.specs.declared.failure.Failure.TheVariants as ending
use Rattle.pitch_tool.specs.declared.failure.Trouble.{Trouble}
use Rattle.pitch_tool.specs.declared.failure.Trouble.TheVariants.{Blocks, LongText, Commands}
use Rattle.pitch_tool.specs.declared.failure.Trouble.TheVariants.{Schedule, SequencesSpent, Audit}
use Rattle.pitch_tool.specs.declared.status.ExitStatus.{ExitStatus}
use Rattle.pitch_tool.specs.declared.status.ExitStatus.TheVariants.{Done, Usage, BadInput}
use Rattle.pitch_tool.specs.declared.status.ExitStatus.TheVariants.{ReadFault, WriteFault}
use Rattle.pitch_tool.specs.declared.status.ExitStatus.TheVariants.{OutOfMemory, NetFault}

-- ---- What is said on the error line
abbrev pub usage_text : List ℕ
usage_text = codes
    "pitch: usage: follow | show | pack | replay | storm | drill | demo | relay | quotes | audit\n"

abbrev pub trouble_text : Trouble → List ℕ
trouble_text (Blocks (Faulty fault)) =
    codes "pitch: bad input at " ++ (fault_text fault ++ codes "\n")
trouble_text (Blocks (BadCapture fault)) =
    codes "pitch: bad input at " ++ (capture_fault_text fault ++ codes "\n")
trouble_text (Blocks TooLong) = codes "pitch: input is longer than 1073741824 bytes\n"
trouble_text LongText = codes "pitch: input is longer than 67108864 bytes\n"
trouble_text (Commands error) = codes "pitch: " ++ (command_error_text error ++ codes "\n")
trouble_text (Schedule error) = codes "pitch: " ++ (replay_error_text error ++ codes "\n")
trouble_text SequencesSpent = codes "pitch: refused: sequences-spent\n"
trouble_text (Audit fault) = codes "pitch: bad input at " ++ (audit_fault_text fault ++ codes "\n")

abbrev pub read_text : List ℕ
read_text = codes "pitch: read fault\n"

abbrev pub write_text : List ℕ
write_text = codes "pitch: write fault\n"

abbrev pub net_text : List ℕ
net_text = codes "pitch: net fault\n"

abbrev pub memory_text : List ℕ
memory_text = codes "pitch: out of memory\n"

-- ---- How the program ends
-- the words are no form
abbrev pub IsNoForm : List (List ℕ) → Type 0
IsNoForm words = (form : Form) → IsForm words form → ⊥

-- the words are no form of a demo: they are another form, or none
abbrev pub IsNoDemo : List (List ℕ) → Type 0
IsNoDemo words = (form : Form) → IsForm words form → uses_net form ≡ false

-- where the words are a form that reads a stream, less than a piece was taken behind the byte with
-- which a trouble shows
abbrev pub StopsAtTrouble : List (List ℕ) → Told → Type 0
StopsAtTrouble words input = (form : Form) → IsForm words form → StopsInTime form input

-- the words are a form, and its job ended so
abbrev pub Does : List (List ℕ) → Result (Unit {0}) Failure → (input out : Told) → Wires → Type 0
Does words result input out net =
    (form : Form) × IsForm words form × JobEnds form result input out net

-- memory ran out: before anything was read or the net was called, during the job, or where an input
-- was refused and the line that says so was made
abbrev pub RunsOut : List (List ℕ) → (input out : Told) → Wires → Type 0
RunsOut words input out net = (IsUntouched input × IsUntouched out × IsUncalled net)
    ⊎ (Does words (Err ending.OutOfMemory) input out net
    ⊎ ((trouble : Trouble) × Does words (Err (ending.BadInput trouble)) input out net))

-- how the program ends: what the words are, what was read and written, and what was said
abbrev pub Closes : List (List ℕ) → ExitStatus → Run → Type 0
Closes words Done run = Does words (Ok tt) run.input.bytes run.out.bytes run.net
Closes words Usage run = IsNoForm words
    × IsUntouched run.input.bytes × IsUntouched run.out.bytes × Says run.err usage_text
Closes words BadInput run =
    (trouble : Trouble) × Does words (Err (ending.BadInput trouble))
    run.input.bytes run.out.bytes run.net × Says run.err (trouble_text trouble)
Closes words ReadFault run =
    Does words (Err ending.Read) run.input.bytes run.out.bytes run.net × Says run.err read_text
Closes words WriteFault run =
    Does words (Err ending.Write) run.input.bytes run.out.bytes run.net × Says run.err write_text
Closes words NetFault run =
    Does words (Err ending.Net) run.input.bytes run.out.bytes run.net × Says run.err net_text
Closes words OutOfMemory run =
    RunsOut words run.input.bytes run.out.bytes run.net × Says run.err memory_text

-- a status that tells of a device's failure has its cause in that device's count, and no count
-- falls; that of the net stays, unless the status tells of its failure or memory ran out
pub record HasCauses (status : ExitStatus) (run : Run) : Type 0 where
  pub read : HasCause run.input.faults run.input.faults' (status ≡ ReadFault)
  pub write : HasCause run.out.faults run.out.faults' (status ≡ WriteFault)
  pub net : HasCause run.net.faults run.net.faults' (status ≡ NetFault)
  pub still : status ≢ NetFault → status ≢ OutOfMemory → run.net.faults' ≡ run.net.faults

-- how it ends before anything is said
abbrev pub RunEnds : List (List ℕ) → Result (Unit {0}) Failure → (input out : Told) → Wires → Type 0
RunEnds words (Err ending.Usage) input out net =
    IsNoForm words × IsUntouched input × IsUntouched out
RunEnds words (Err ending.OutOfMemory) input out net =
    (IsUntouched input × IsUntouched out × IsUncalled net)
    ⊎ Does words (Err ending.OutOfMemory) input out net
RunEnds words result input out net = Does words result input out net

-- ---- Completeness
-- the job was done whole, or memory ran out
abbrev pub IsWhole : ExitStatus → Type 0
IsWhole status = (status ≡ Done) ⊎ (status ≡ OutOfMemory)

-- the input was refused, or memory ran out
abbrev pub IsRefusal : ExitStatus → Type 0
IsRefusal status = (status ≡ BadInput) ⊎ (status ≡ OutOfMemory)
