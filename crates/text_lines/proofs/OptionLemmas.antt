-- Optional fields read one after the other say what the rule on optional fields says.
use Rattle.std.proofs.Common.{◌≡◌, ℕ, ◌+◌, Bool, true, false, cond, List, [], ◌∷◌, length, drop, Option, Some, None, Result, Ok, refl, ap, ◌∙◌}
use Rattle.std.specs.Prelude.{is_some, nat_eq}
use Rattle.std.specs.List.{starts_with}
use Rattle.std.specs.Option.{option_map}
use Rattle.std.specs.Cmp.Lexicographic.{pointwise}
use Rattle.text_lines.specs.declared.fault.Fault.{Fault}
use Rattle.text_lines.specs.declared.fault.TextCause.{TextCause}
use Rattle.text_lines.specs.declared.fault.TextCause.TheVariants.{BadWord, ExtraField}
use Rattle.text_lines.specs.Fields.{Field, Rest, rest_after}
use Rattle.text_lines.specs.layers.Next.{word_on, value_on, as_some, end_on}
use Rattle.text_lines.specs.Options.{Optional, named, flag, pick, unknown, with_option, picked, options_on}
use Rattle.text_lines.specs.Reading.{LineReading, then_read, gives, or_fault}

-- the cause of a field that is none of these, where the optional field before them was read or not
abbrev pub cause_by : {Said : Type 0} → Bool → List (Optional Said) → TextCause
cause_by last_read [] = cond last_read ExtraField BadWord
cause_by last_read (o ∷ os) = BadWord

cause_when_read : {Said : Type 0} (os : List (Optional Said)) → cause_by true os ≡ unknown os
cause_when_read [] = refl
cause_when_read (o ∷ os) = refl

cause_when_not : {Said : Type 0} (os : List (Optional Said)) → cause_by false os ≡ BadWord
cause_when_not [] = refl
cause_when_not (o ∷ os) = refl

-- what the optional fields from one on add, where the one before them was read or not
abbrev pub tail_on : {Said : Type 0} → Bool → List (Optional Said) → Said → ℕ → List Field → Result (Said × Rest) Fault
tail_on last_read os said past [] = Ok (said, record { past = past; fields = [] })
tail_on last_read os said past (f ∷ fields) = picked (pick os f.bytes) f (cause_by last_read os) said (λ behind now. options_on behind now (f.column + length f.bytes) fields)

abbrev pub tail : {Said : Type 0} → Bool → List (Optional Said) → Said → LineReading Said
tail last_read os said rest = tail_on last_read os said rest.past rest.fields

pub tail_when_read : {Said : Type 0} (os : List (Optional Said)) (said : Said) (past : ℕ) (fields : List Field) → tail_on true os said past fields ≡ options_on os said past fields
tail_when_read os said past [] = refl
tail_when_read os said past (f ∷ fields) = rw (cause_when_read os) refl

-- the end of the line, after all optional fields
pub end_step : {Said : Type 0} (last_read : Bool) (said : Said) (past : ℕ) (fields : List Field) → then_read (end_on last_read past fields) (λ _. gives said) ≡ tail_on last_read [] said past fields
end_step last_read said past [] = refl
end_step last_read said past (f ∷ fields) = refl

-- nothing was put
same_said : {Said : Type 0} (os : List (Optional Said)) (before said : Said) (past : ℕ) (f : Field) (fields : List Field) → before ≡ said
    → tail_on false os before past (f ∷ fields) ≡ picked (pick os f.bytes) f BadWord said (λ behind now. options_on behind now (f.column + length f.bytes) fields)
same_said os before said past f fields same = rw (cause_when_not os, same) refl

-- what follows a value that was read
value_read_by : {A Said : Type 0} (m : Option A) (cause : TextCause) (put : Option A → Said → Said) (os : List (Optional Said)) (said : Said) (next : Option A → LineReading Said)
    → ((x : Option A) (rest : Rest) → next x rest ≡ tail (is_some x) os (put x said) rest) → (f : Field) (fields : List Field)
    → then_read (as_some (or_fault m f.column cause (rest_after f fields))) next ≡ with_option (option_map (λ x. put (Some x) said) m) f.column cause (λ now. options_on os now (f.column + length f.bytes) fields)
value_read_by None cause put os said next each f fields = refl
value_read_by (Some x) cause put os said next each f fields = each (Some x) (rest_after f fields) ∙ tail_when_read os (put (Some x) said) (f.column + length f.bytes) fields

value_by : {A Said : Type 0} (b : Bool) (name : List ℕ) (meaning : List ℕ → Option A) (cause : TextCause) (put : Option A → Said → Said) (os : List (Optional Said)) (said : Said) (last_read : Bool) (next : Option A → LineReading Said)
    → put None said ≡ said → ((x : Option A) (rest : Rest) → next x rest ≡ tail (is_some x) os (put x said) rest) → (past : ℕ) (f : Field) (fields : List Field) → starts_with nat_eq f.bytes name ≡ b
    → then_read (value_on name meaning cause past (f ∷ fields)) next ≡ tail_on last_read (named name meaning cause put ∷ os) said past (f ∷ fields)
value_by true name meaning cause put os said last_read next same each past f fields is = rw is (value_read_by (meaning (drop (length name) f.bytes)) cause put os said next each f fields)
value_by false name meaning cause put os said last_read next same each past f fields is = rw is (each None (record { past = past; fields = f ∷ fields }) ∙ same_said os (put None said) said past f fields same)

-- one field `name=VALUE`, and then the others
pub value_step : {A Said : Type 0} (name : List ℕ) (meaning : List ℕ → Option A) (cause : TextCause) (put : Option A → Said → Said) (os : List (Optional Said)) (said : Said) (last_read : Bool) (next : Option A → LineReading Said)
    → put None said ≡ said → ((x : Option A) (rest : Rest) → next x rest ≡ tail (is_some x) os (put x said) rest) → (past : ℕ) (fields : List Field)
    → then_read (value_on name meaning cause past fields) next ≡ tail_on last_read (named name meaning cause put ∷ os) said past fields
value_step {A} {Said} name meaning cause put os said last_read next same each past [] = each None (record { past = past; fields = [] }) ∙ ap (λ (s : Said). Ok (s, record { past = past; fields = [] })) same
value_step name meaning cause put os said last_read next same each past (f ∷ fields) = value_by (starts_with nat_eq f.bytes name) name meaning cause put os said last_read next same each past f fields refl

word_by : {Said : Type 0} (b : Bool) (word : List ℕ) (put : Bool → Said → Said) (os : List (Optional Said)) (said : Said) (last_read : Bool) (next : Bool → LineReading Said)
    → put false said ≡ said → ((x : Bool) (rest : Rest) → next x rest ≡ tail x os (put x said) rest) → (past : ℕ) (f : Field) (fields : List Field) → pointwise nat_eq f.bytes word ≡ b
    → then_read (word_on word past (f ∷ fields)) next ≡ tail_on last_read (flag word put ∷ os) said past (f ∷ fields)
word_by true word put os said last_read next same each past f fields is = rw is (each true (rest_after f fields) ∙ tail_when_read os (put true said) (f.column + length f.bytes) fields)
word_by false word put os said last_read next same each past f fields is = rw is (each false (record { past = past; fields = f ∷ fields }) ∙ same_said os (put false said) said past f fields same)

-- one optional word, and then the other fields
pub word_step : {Said : Type 0} (word : List ℕ) (put : Bool → Said → Said) (os : List (Optional Said)) (said : Said) (last_read : Bool) (next : Bool → LineReading Said)
    → put false said ≡ said → ((x : Bool) (rest : Rest) → next x rest ≡ tail x os (put x said) rest) → (past : ℕ) (fields : List Field)
    → then_read (word_on word past fields) next ≡ tail_on last_read (flag word put ∷ os) said past fields
word_step {Said} word put os said last_read next same each past [] = each false (record { past = past; fields = [] }) ∙ ap (λ (s : Said). Ok (s, record { past = past; fields = [] })) same
word_step word put os said last_read next same each past (f ∷ fields) = word_by (pointwise nat_eq f.bytes word) word put os said last_read next same each past f fields refl
