-- Tables of messages by their type: how a raw is read by one, and how a message is written.
use Rattle.std.specs.Prelude.{◌≡◌, ℕ, ◌==◌, ◌+◌, ◌≤◌, nat_lt, List, [], ◌∷◌, length}
use Rattle.std.specs.Prelude.{Option, None, Some, Result, if◌then◌else◌}
use Rattle.pitch_messages.specs.Fields.{Field, Values, Makes, widths, all_bytes}
use Rattle.pitch_messages.specs.Fields.{with_fields}
use Rattle.pitch_messages.specs.Raw.{kind_of}

-- a type of message: its byte, its fields, end to end behind the length and the type, and the
-- message that is made of what they say
pub record Row (A : Type 0) : Type 0 where
  pub kind : ℕ
  pub fields : List Field
  pub makes : Makes fields A

-- how many bytes a message of a row needs
abbrev pub needs : {A : Type 0} → Row A → ℕ
needs row = 2 + widths row.fields

-- what a raw of a row says; what it has past the row's bytes is ignored
abbrev pub says : {A E : Type 0} → (ℕ → E) → Row A → List ℕ → Result A E
says bad row raw = with_fields bad row.fields 2 raw row.makes

-- the bytes of a message of a row: its length, its type and its fields, end to end
abbrev pub row_bytes : {A : Type 0} (row : Row A) → Values row.fields → List ℕ
row_bytes row values = needs row ∷ row.kind ∷ all_bytes row.fields values

-- the row of a type
abbrev pub row_in : {A : Type 0} → List (Row A) → ℕ → Option (Row A)
row_in [] kind = None
row_in (row ∷ rows) kind = if kind == row.kind then Some row else row_in rows kind

-- how many bytes a row needs, 0 where there is none
abbrev pub needs_by : {A : Type 0} → Option (Row A) → ℕ
needs_by None = 0
needs_by (Some row) = needs row

-- a raw of a type, with the bytes that its row needs
pub record IsWhole {A : Type 0} (row_of : ℕ → Option (Row A)) (kind : ℕ) (raw : List ℕ) :
    Type 0 where
  pub is : kind_of raw ≡ kind
  pub long : needs_by (row_of kind) ≤ length raw

-- what a raw says by its row
abbrev pub reads_by : {A B : Type 0} → (List ℕ → B) → (ℕ → ℕ → B) → (Row A → List ℕ → B)
    → Option (Row A) → List ℕ → B
reads_by unknown short known None raw = unknown raw
reads_by unknown short known (Some row) raw =
    if nat_lt (length raw) (needs row) then short (needs row) (length raw) else known row raw
