-- The words for what an audit finds.
use Rattle.std.specs.Prelude.{ℕ, List, [], ◌∷◌, ◌++◌, codes, decimal}
use Rattle.unit_packets.specs.Causes.{fault_text}
use Rattle.run_audit.specs.declared.input.FoundGap.{FoundGap}
use Rattle.run_audit.specs.declared.input.AuditFault.{AuditFault}
use Rattle.run_audit.specs.declared.input.AuditFault.TheVariants.{NoSize, CutLog, Faulty, Gap}
use Rattle.run_audit.specs.declared.verdict.Verdict.{Verdict}
use Rattle.run_audit.specs.declared.verdict.Verdict.TheVariants.{Yes, No}

-- the sequence that stands there, and the next one
abbrev pub gap_text : FoundGap → List ℕ
gap_text gap = codes "sequence "
    ++ (decimal gap.sequence ++ (codes " where " ++ (decimal gap.next ++ codes " is next")))

-- what is wrong with an input, and where
abbrev pub audit_fault_text : AuditFault → List ℕ
audit_fault_text (NoSize has) = codes "byte 0: truncated, has " ++ (decimal has ++ codes " of 8")
audit_fault_text (CutLog has needs) =
    codes "byte 8: truncated, has " ++ (decimal has ++ (codes " of " ++ decimal needs))
audit_fault_text (Faulty fault) = fault_text fault
audit_fault_text (Gap place gap) = codes "byte " ++ (decimal place ++ (codes ": " ++ gap_text gap))

-- the line of a verdict
abbrev pub verdict_line : Verdict → List ℕ
verdict_line (Yes books) = codes "audit yes books " ++ (decimal books ++ 10 ∷ [])
verdict_line (No line) = codes "audit no line " ++ (decimal line ++ 10 ∷ [])
