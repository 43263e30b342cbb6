-- How an audit ends, by what ended it.
use Rattle.std.proofs.Common.{◌≡◌, ◌≤◌, ℕ, List, Bool, cond, length, Some, Result, Ok, Err, sym, ap, ◌∙◌, subst}
use Rattle.std.proofs.lemmas.Bool.{le-ltb, lt-ltb}
use Rattle.std.specs.Option.{option_map}
use Rattle.std.specs.Result.{IsErr, IsErrAnd}
use Rattle.pitch_io.specs.Putting.{Grows}
use Rattle.run_audit.specs.Causes.{verdict_line}
use Rattle.run_audit.specs.Input.{Audits, IsRefused, input_fault}
use Rattle.run_audit.specs.declared.input.InputError.{InputError}
use Rattle.run_audit.specs.declared.input.InputError.TheVariants as errors
use Rattle.run_audit.specs.declared.verdict.Verdict.{Verdict}
use Rattle.stream_print.specs.Inputs.{ReadsAll}
use Rattle.stream_print.specs.Putting.{PutsSome}
use Rattle.stream_print.specs.Told.{Told, IsUntouched}
use Rattle.stream_print.specs.declared.failure.StreamTrouble.TheVariants.{TooLong}
use Rattle.pitch_tool.specs.AuditForm.{AuditEnds}
use Rattle.pitch_tool.specs.layers.Failures.{of_audit}
use Rattle.pitch_tool.specs.layers.Reading.{IsUnread}
use Rattle.pitch_tool.specs.declared.failure.Failure.{Failure}
use Rattle.pitch_tool.specs.declared.failure.Failure.TheVariants.{Usage, BadInput, Read, Write, Net, OutOfMemory}
use Rattle.pitch_tool.specs.declared.failure.Trouble.TheVariants.{Audit, Blocks}
use Rattle.pitch_tool.proofs.Failing.{failed_by, has_all}

-- the input was not read whole
pub audit_unread : (most : ℕ) (input out : Told) (failure : Failure) → IsUnread most (Blocks TooLong) input failure → IsUntouched out → AuditEnds most (Err failure) input out
audit_unread most input out (BadInput trouble) (is, bytes, has, long) same = record {
  bytes = bytes;
  has = has;
  trouble_is = ap (λ (b : Bool). cond b (Some (Blocks TooLong)) (option_map Audit (input_fault bytes))) (lt-ltb most (length bytes) long) ∙ ap Some (sym is);
  wrote = same;
}
audit_unread most input out Read u same = (u, same)
audit_unread most input out OutOfMemory u same = same
audit_unread most input out Usage u same = u
audit_unread most input out Write u same = absurd u
audit_unread most input out Net u same = u

-- it has a fault
audit_faulty : (most : ℕ) (input out : Told) (bytes : List ℕ) (error : InputError) → ReadsAll input bytes → length bytes ≤ most → IsRefused bytes error → IsUntouched out → AuditEnds most (Err (of_audit error)) input out
audit_faulty most input out bytes (errors.Fault fault) read small is same = record {
  bytes = bytes;
  has = has_all input.old input.new bytes read;
  trouble_is = ap (λ (b : Bool). cond b (Some (Blocks TooLong)) (option_map Audit (input_fault bytes))) (le-ltb most (length bytes) small) ∙ ap (option_map Audit) is;
  wrote = same;
}
audit_faulty most input out bytes errors.OutOfMemory read small is same = same

pub audit_refused : (most : ℕ) (input out : Told) (bytes : List ℕ) (error : InputError) (r : Result (Unit {0}) Failure) → IsErr r × IsErrAnd r (λ failure. failure ≡ of_audit error) → ReadsAll input bytes → length bytes ≤ most → IsRefused bytes error
    → IsUntouched out → AuditEnds most r input out
audit_refused most input out bytes error r failed read small is same =
    failed_by (λ (r : Result (Unit {0}) Failure). AuditEnds most r input out) r (of_audit error) failed (audit_faulty most input out bytes error read small is same)

-- the line of its verdict was cut off
pub audit_cut : (most : ℕ) (input out : Told) (bytes line : List ℕ) (verdict : Verdict) (r : Result (Unit {0}) Failure) → IsErr r × IsErrAnd r (λ failure. failure ≡ Write) → ReadsAll input bytes → length bytes ≤ most → Audits bytes verdict
    → line ≡ verdict_line verdict → PutsSome out.old out.new line → AuditEnds most r input out
audit_cut most input out bytes line verdict r failed read small audits is some =
    failed_by (λ (r : Result (Unit {0}) Failure). AuditEnds most r input out) r Write failed
    (verdict, record { bytes = bytes; read = read; small = small; audits = audits }, subst (λ (l : List ℕ). PutsSome out.old out.new l) is some)

-- or it was written
pub audit_done : (most : ℕ) (input out : Told) (bytes line : List ℕ) (verdict : Verdict) → ReadsAll input bytes → length bytes ≤ most → Audits bytes verdict → line ≡ verdict_line verdict → Grows out.old out.new line → AuditEnds most (Ok tt) input out
audit_done most input out bytes line verdict read small audits is grows =
    (verdict, record { bytes = bytes; read = read; small = small; audits = audits }, subst (λ (l : List ℕ). Grows out.old out.new l) is grows)
