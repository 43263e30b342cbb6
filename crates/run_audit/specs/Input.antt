-- The input of an audit: eight bytes with the number of the log's bytes, the log, and a report.
use Rattle.std.specs.Prelude.{◌≡◌, ℕ, ◌+◌, ◌==◌, Bool, ◌||◌, List, [], ◌∷◌, length, take, drop}
use Rattle.std.specs.Prelude.{reverse, nat_lt, Option, None, Some, if◌then◌else◌}
use Rattle.std.specs.List.{concat}
use Rattle.std.specs.Option.{option_map}
use Rattle.pitch_fields.specs.Fields.{number_at}
use Rattle.unit_packets.specs.Blocks.{Block}
use Rattle.unit_packets.specs.Cutting.{blocks_of, fault_at_end}
use Rattle.unit_packets.specs.declared.header.BlockFault.{BlockFault}
use Rattle.pitch_model.specs.History.{Raw}
use Rattle.run_audit.specs.Log.{logged}
use Rattle.run_audit.specs.Report.{Judges, lines_of}
use Rattle.run_audit.specs.declared.input.AuditFault.{AuditFault}
use Rattle.run_audit.specs.declared.input.AuditFault.TheVariants.{NoSize, CutLog, Faulty, Gap}
use Rattle.run_audit.specs.declared.input.InputError.{InputError}
use Rattle.run_audit.specs.declared.input.InputError.TheVariants.{Fault, OutOfMemory}
use Rattle.run_audit.specs.declared.verdict.Verdict.{Verdict}

abbrev pub log_size : List ℕ → ℕ
log_size bytes = number_at 8 0 bytes

abbrev pub log_in : List ℕ → List ℕ
log_in bytes = take (log_size bytes) (drop 8 bytes)

abbrev pub report_in : List ℕ → List ℕ
report_in bytes = drop (log_size bytes) (drop 8 bytes)

-- the messages of each unit in the log
abbrev pub messages_in : List ℕ → ℕ → List Raw
messages_in bytes = logged (reverse (blocks_of (log_in bytes)))

-- a gap at a place: the sequence that stands there, and the next one
abbrev pub gap_at : ℕ → ℕ → ℕ → AuditFault
gap_at place sequence next = Gap place (record { sequence = sequence; next = next })

-- whether a block may follow others, as MayFollow says
abbrev pub may_follow : (ℕ → List Raw) → Block → Bool
may_follow Vs block = (length block.raws == 0) || (block.sequence == length (Vs block.unit) + 1)

-- what is wrong with blocks that stand at a place behind others: the first that may not follow, or
-- else what is wrong behind them
abbrev pub fault_behind : Option AuditFault → ℕ → List Block → List Block → Option AuditFault
fault_behind end place before [] = end
fault_behind end place before (block ∷ blocks) =
    if may_follow (logged before) block
    then fault_behind end (place + (8 + length (concat block.raws))) (block ∷ before) blocks
    else Some (gap_at place block.sequence (length (logged before block.unit) + 1))

-- a fault of the log, by its place in the input
abbrev pub in_log : BlockFault → AuditFault
in_log fault = Faulty (record fault { place = 8 + fault.place })

-- what is wrong with a log: the first block that may not follow, or the fault behind the whole
-- blocks
unfoldable pub fault_in_log : List ℕ → Option AuditFault
fault_in_log log = fault_behind (option_map in_log (fault_at_end log)) 8 [] (blocks_of log)

-- what is wrong with an input, the first in its order
unfoldable pub input_fault : List ℕ → Option AuditFault
input_fault bytes =
    if nat_lt (length bytes) 8 then Some (NoSize (length bytes))
    else (if nat_lt (length (drop 8 bytes)) (log_size bytes) then Some
    (CutLog (length (drop 8 bytes)) (log_size bytes)) else fault_in_log (log_in bytes))

-- nothing is wrong with the input, and this is said of its report
abbrev pub Audits : List ℕ → Verdict → Type 0
Audits bytes verdict =
    (input_fault bytes ≡ None) × Judges (messages_in bytes) (lines_of (report_in bytes)) verdict

-- this is wrong with the input
abbrev pub IsRefused : List ℕ → InputError → Type 0
IsRefused bytes (Fault fault) = input_fault bytes ≡ Some fault
IsRefused bytes OutOfMemory = Unit {0}
