-- An audit: what is written of its input, and how it ends.
use Rattle.std.specs.Prelude.{◌≡◌, ℕ, ◌≤◌, List, length, nat_lt, Option, Some}
use Rattle.std.specs.Prelude.{Result, Ok, Err, if◌then◌else◌}
use Rattle.std.specs.Option.{option_map}
use Rattle.std.specs.Io.KnownBytes.{Consumes}
use Rattle.pitch_io.specs.Putting.{Grows}
use Rattle.run_audit.specs.Causes.{verdict_line}
use Rattle.run_audit.specs.Input.{Audits, input_fault}
use Rattle.run_audit.specs.declared.verdict.Verdict.{Verdict}
use Rattle.stream_print.specs.Inputs.{ReadsAll, Has}
use Rattle.stream_print.specs.Putting.{PutsSome}
use Rattle.stream_print.specs.Told.{Told, IsUntouched}
use Rattle.stream_print.specs.declared.failure.StreamTrouble.TheVariants.{TooLong}
use Rattle.pitch_tool.specs.declared.failure.Failure.{Failure}
use Rattle.pitch_tool.specs.declared.failure.Failure.TheVariants.{Usage, BadInput, Read, Write, Net}
use Rattle.pitch_tool.specs.declared.failure.Failure.TheVariants.{OutOfMemory}
use Rattle.pitch_tool.specs.declared.failure.Trouble.{Trouble}
use Rattle.pitch_tool.specs.declared.failure.Trouble.TheVariants.{Audit, Blocks}

-- what is wrong with an input of which at most `most` bytes are read: that it has more, or else
-- what the audit finds
abbrev pub audit_trouble : ℕ → List ℕ → Option Trouble
audit_trouble most bytes =
    if nat_lt most (length bytes) then Some (Blocks TooLong)
    else option_map Audit (input_fault bytes)

-- the whole input was read, and this is the verdict on it
pub record ReadsAudit (most : ℕ) (input : Told) (verdict : Verdict) : Type 0 where
  pub bytes : List ℕ
  pub read : ReadsAll input bytes
  pub small : length bytes ≤ most
  pub audits : Audits bytes verdict

-- the input has this trouble, and nothing was written
pub record RefusesAudit (most : ℕ) (trouble : Trouble) (input out : Told) : Type 0 where
  pub bytes : List ℕ
  pub has : Has input.old bytes
  pub trouble_is : audit_trouble most bytes ≡ Some trouble
  pub wrote : IsUntouched out

-- How an audit ends: the line of its verdict was written; or a prefix of it, where the sink failed;
-- or nothing, where the input has a fault, the source failed or memory ran out.
abbrev pub AuditEnds : ℕ → Result (Unit {0}) Failure → (input out : Told) → Type 0
AuditEnds most (Ok done) input out =
    (verdict : Verdict) × ReadsAudit most input verdict
    × Grows out.old out.new (verdict_line verdict)
AuditEnds most (Err (BadInput trouble)) input out = RefusesAudit most trouble input out
AuditEnds most (Err Write) input out =
    (verdict : Verdict) × ReadsAudit most input verdict
    × PutsSome out.old out.new (verdict_line verdict)
AuditEnds most (Err Read) input out =
    ((bytes : List ℕ) × Consumes input.old input.new bytes) × IsUntouched out
AuditEnds most (Err OutOfMemory) input out = IsUntouched out
AuditEnds most (Err Usage) input out = ⊥
AuditEnds most (Err Net) input out = ⊥
