-- One optional field alone, where it stands next, and the end of the line after such fields.
use Rattle.std.specs.Prelude.{ℕ, Bool, true, false, nat_eq, List, [], ◌∷◌, length, drop, Option}
use Rattle.std.specs.Prelude.{Some, None, Result, Ok, Err, if◌then◌else◌}
use Rattle.std.specs.List.{starts_with}
use Rattle.std.specs.Cmp.Lexicographic.{pointwise}
use Rattle.text_lines.specs.declared.fault.Fault.{Fault}
use Rattle.text_lines.specs.declared.fault.TextCause.{TextCause}
use Rattle.text_lines.specs.declared.fault.TextCause.TheVariants.{BadWord, ExtraField}
use Rattle.text_lines.specs.Fields.{Field, Rest, rest_after}
use Rattle.text_lines.specs.Reading.{LineReading, or_fault, fault_in_column}

-- whether this word stands next, which then is read
abbrev pub word_on : List ℕ → ℕ → List Field → Result (Bool × Rest) Fault
word_on word past [] = Ok (false, record { past = past; fields = [] })
word_on word past (f ∷ fields) =
    if pointwise nat_eq f.bytes word
    then Ok (true, rest_after f fields) else Ok (false, record { past = past; fields = f ∷ fields })

-- the same of what is left of a line
abbrev pub word_next : List ℕ → LineReading Bool
word_next word rest = word_on word rest.past rest.fields

-- a value that was read, as one that may be absent
abbrev pub as_some : {A : Type 0} → Result (A × Rest) Fault → Result (Option A × Rest) Fault
as_some (Ok x) = Ok (Some x.0, x.1)
as_some (Err f) = Err f

-- what the field `name=VALUE` says, where it stands next, which then is read
abbrev pub value_on : {A : Type 0}
    → List ℕ → (List ℕ → Option A) → TextCause → ℕ → List Field → Result (Option A × Rest) Fault
value_on name meaning cause past [] = Ok (None, record { past = past; fields = [] })
value_on name meaning cause past (f ∷ fields) =
    if starts_with nat_eq f.bytes name then as_some
    (or_fault (meaning (drop (length name) f.bytes)) f.column cause (rest_after f fields))
    else Ok (None, record { past = past; fields = f ∷ fields })

-- the same of what is left of a line
abbrev pub value_next : {A : Type 0}
    → List ℕ → (List ℕ → Option A) → TextCause → LineReading (Option A)
value_next name meaning cause rest = value_on name meaning cause rest.past rest.fields

-- the line ends, or has a field more: one too many where the last optional field was read
abbrev pub end_on : Bool → ℕ → List Field → Result (Unit {0} × Rest) Fault
end_on last_read past [] = Ok (tt, record { past = past; fields = [] })
end_on last_read past (f ∷ fields) =
    Err (fault_in_column f.column (if last_read then ExtraField else BadWord))

-- the same of what is left of a line
abbrev pub end_next : Bool → LineReading (Unit {0})
end_next last_read rest = end_on last_read rest.past rest.fields
