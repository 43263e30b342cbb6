-- A raw that is written again: its reserved bytes are spaces then.
use Rattle.std.specs.Prelude.{ℕ, List, [], ◌∷◌, ◌++◌, take, drop, Option, None, Some, ◌≡◌}
use Rattle.pitch_messages.specs.Fields.{Field, Reserved, width, spaces}
use Rattle.pitch_messages.specs.Table.{Row}
use Rattle.pitch_messages.specs.Raw.{kind_of}
use Rattle.pitch_messages.specs.Reading.{row_of}
use Rattle.pitch_messages.specs.declared.message.Message.{Message}
use Rattle.pitch_messages.specs.declared.message.Message.TheVariants as messages

-- the bytes of a field, or spaces where it is reserved
abbrev pub blanked : Field → List ℕ → List ℕ
blanked (Reserved n) bytes = spaces n
blanked _ bytes = bytes

-- the bytes of fields, with spaces for the reserved ones
abbrev pub all_blanked : List Field → List ℕ → List ℕ
all_blanked [] bytes = bytes
all_blanked (field ∷ fields) bytes =
    blanked field (take (width field) bytes) ++ all_blanked fields (drop (width field) bytes)

-- a raw with spaces for the reserved bytes of its row
abbrev pub blanked_by : {A : Type 0} → Option (Row A) → List ℕ → List ℕ
blanked_by None raw = raw
blanked_by (Some row) raw = take 2 raw ++ all_blanked row.fields (drop 2 raw)

-- a raw with spaces for its reserved bytes
abbrev pub with_reserved_blank : List ℕ → List ℕ
with_reserved_blank raw = blanked_by (row_of (kind_of raw)) raw

-- a message of a known type has its own variant, and does not stand under Other
abbrev pub HasItsVariant : Message → Type 0
HasItsVariant (messages.Other raw) = row_of (kind_of raw) ≡ None
HasItsVariant _ = Unit {0}
