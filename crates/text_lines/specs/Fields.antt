-- A line as fields, each with the column of its first byte. Columns count from 1.
use Rattle.std.specs.Prelude.{ℕ, ◌+◌, ◌==◌, not, List, [], ◌∷◌, length, filter}
use Rattle.std.specs.List.{slice_split}

-- some bytes of a line without a space among them, and the column of the first
pub record Field : Type 0 where
  pub column : ℕ
  pub bytes : List ℕ

-- the parts of a line between its spaces, each at its column; one space stands between two parts
abbrev pub placed : ℕ → List (List ℕ) → List Field
placed column [] = []
placed column (part ∷ parts) =
    record { column = column; bytes = part } ∷ placed (column + length part + 1) parts

-- the fields of the bytes from a column on: the parts that are not empty
abbrev pub fields_from : ℕ → List ℕ → List Field
fields_from column line =
    filter (λ f. not (length f.bytes == 0)) (placed column (slice_split (λ b. b == 32) line))

-- the fields of a line
abbrev pub fields_of : List ℕ → List Field
fields_of line = fields_from 1 line

-- what is left of a line while it is read: its fields, and the column one past the last field that
-- was read
pub record Rest : Type 0 where
  pub past : ℕ
  pub fields : List Field

-- what is left after a field
abbrev pub rest_after : Field → List Field → Rest
rest_after f fields = record { past = f.column + length f.bytes; fields = fields }
