-- A line that the code has cut up to its next field.
use Rattle.std.specs.Prelude.{◌≡◌, ℕ, ◌+◌, List, [], ◌∷◌, length, Option, Some, None}
use Rattle.text_lines.specs.declared.fields.FoundField.{FoundField}
use Rattle.text_lines.specs.Fields.{Field, Rest, rest_after, fields_from}

-- a field that the code found
abbrev pub field_of : FoundField → Field
field_of f = record { column = f.column; bytes = f.bytes.now }

-- the next field, and those of the bytes after it
abbrev pub seen : Option FoundField → List ℕ → List Field
seen None rest = []
seen (Some f) rest = field_of f ∷ fields_from (f.column + length f.bytes.now) rest

-- this is the first of the fields
abbrev pub IsNext : List Field → Option FoundField → Type 0
IsNext fields None = fields ≡ []
IsNext fields (Some f) = (more : List Field) × (fields ≡ field_of f ∷ more)

-- the first field was taken
abbrev pub TakesField : Rest → Option FoundField → Rest → Type 0
TakesField old None new = (old.fields ≡ []) × (new ≡ old)
TakesField old (Some f) new =
    (more : List Field) × (old.fields ≡ field_of f ∷ more) × (new ≡ rest_after (field_of f) more)
