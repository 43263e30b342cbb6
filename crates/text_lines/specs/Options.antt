-- Optional fields: they come after the required ones, in their order, each at most once.
use Rattle.std.specs.Prelude.{ℕ, ◌+◌, Bool, true, nat_eq, List, [], ◌∷◌, length, drop, Option, Some}
use Rattle.std.specs.Prelude.{None, Result, Ok, Err, if◌then◌else◌}
use Rattle.std.specs.List.{starts_with}
use Rattle.std.specs.Option.{option_map}
use Rattle.std.specs.Cmp.Lexicographic.{pointwise}
use Rattle.text_lines.specs.declared.fault.Fault.{Fault}
use Rattle.text_lines.specs.declared.fault.TextCause.{TextCause}
use Rattle.text_lines.specs.declared.fault.TextCause.TheVariants.{BadWord, ExtraField}
use Rattle.text_lines.specs.Fields.{Field, Rest}
use Rattle.text_lines.specs.Reading.{LineReading, fault_in_column}

-- An optional field: which fields are this one, what such a field adds to what was said so far, and
-- the cause where it has no meaning.
pub record Optional (Said : Type 0) : Type 0 where
  pub is_named : List ℕ → Bool
  pub adds : List ℕ → Said → Option Said
  pub cause : TextCause

-- the optional field `name=VALUE`, where `put` notes what it said
abbrev pub named : {A Said : Type 0}
    → List ℕ → (List ℕ → Option A) → TextCause → (Option A → Said → Said) → Optional Said
named name meaning cause put = record {
  is_named = λ bytes. starts_with nat_eq bytes name;
  adds = λ bytes said. option_map (λ x. put (Some x) said) (meaning (drop (length name) bytes));
  cause = cause;
}

-- the optional field that is one word
abbrev pub flag : {Said : Type 0} → List ℕ → (Bool → Said → Said) → Optional Said
flag word put = record {
  is_named = λ bytes. pointwise nat_eq bytes word;
  adds = λ bytes said. Some (put true said);
  cause = BadWord;
}

-- the first of the possible fields that these bytes are, and the fields after it, which alone stay
-- possible
abbrev pub pick : {Said : Type 0}
    → List (Optional Said) → List ℕ → Option (Optional Said × List (Optional Said))
pick [] bytes = None
pick (o ∷ os) bytes = if o.is_named bytes then Some (o, os) else pick os bytes

-- a field that is none of the possible ones is one too many where none is possible, and else a bad
-- word
abbrev pub unknown : {Said : Type 0} → List (Optional Said) → TextCause
unknown [] = ExtraField
unknown (o ∷ os) = BadWord

-- what was said with one field more, and then what the fields after it add
abbrev pub with_option : {Said : Type 0}
    → Option Said → ℕ → TextCause → (Said → Result (Said × Rest) Fault) → Result (Said × Rest) Fault
with_option None column cause next = Err (fault_in_column column cause)
with_option (Some said) column cause next = next said

-- the same for a field that was picked, or that is none of the possible ones
abbrev pub picked : {Said : Type 0}
    → Option (Optional Said × List (Optional Said)) → Field → TextCause
    → Said → (List (Optional Said) → Said → Result (Said × Rest) Fault) → Result (Said × Rest) Fault
picked None f cause said next = Err (fault_in_column f.column cause)
picked (Some p) f cause said next =
    with_option (p.0.adds f.bytes said) f.column p.0.cause (next p.1)

-- What the optional fields say, up to the end of the line: a field stops being possible once it or
-- a later one was read, and a field that is none of those still possible at its place is a fault.
abbrev pub options_on : {Said : Type 0}
    → List (Optional Said) → Said → ℕ → List Field → Result (Said × Rest) Fault
options_on possible said past [] = Ok (said, record { past = past; fields = [] })
options_on possible said past (f ∷ fields) =
    picked (pick possible f.bytes) f
    (unknown possible) said (λ behind now. options_on behind now (f.column + length f.bytes) fields)

-- the same of what is left of a line
abbrev pub options : {Said : Type 0} → List (Optional Said) → Said → LineReading Said
options possible said rest = options_on possible said rest.past rest.fields

-- the line ends here, with no optional field
abbrev pub ends : LineReading (Unit {0})
ends = options [] tt
