-- What is read of a message that was written is that message.
use Rattle.std.proofs.Common.{◌≡◌, ℕ, ◌+◌, ◌≤◌, List, ◌∷◌, length, sym, ap, ◌∙◌, arith, None, Some, Ok, refl}
use Rattle.pitch_messages.specs.Raw.{kind_of}
use Rattle.pitch_messages.specs.Fields.{Values}
use Rattle.pitch_messages.specs.Table.{needs, row_bytes}
use Rattle.pitch_messages.specs.Reading.{MessageRow, reads, row_of}
use Rattle.pitch_messages.specs.Writing.{InRow, Known, Unknown, in_row, bytes_in, written}
use Rattle.pitch_messages.specs.declared.message.Message.{Message}
use Rattle.pitch_messages.specs.declared.message.Message.TheVariants as messages
use Rattle.pitch_messages.specs.declared.message.ReadError.TheVariants.{BadSide}
use Rattle.pitch_messages.proofs.Laying.{AllFit, made, all_laid, row_back, row_laid, row_size}
use Rattle.pitch_messages.proofs.Rows.{said, unsaid}

-- what the fields of a row are written as is read as the message that they make
reads_back : (row : MessageRow) (values : Values row.fields) → row_of row.kind ≡ Some row → AllFit row.fields values → reads (row_bytes row values) ≡ Ok (made row.fields row.makes values)
reads_back row values at fit =
    let long : needs row ≤ length (row_bytes row values) = omega (arith, row_size row values fit) in
    sym (said row (row_bytes row values) row.kind refl at long) ∙ row_back (λ byte. BadSide byte) row values fit

-- what a message says has the widths of its fields
abbrev pub FitsRow : InRow → Type 0
FitsRow (Known row values) = AllFit row.fields values
FitsRow (Unknown raw) = row_of (kind_of raw) ≡ None

-- the table has the row of a message, and the row makes that message
abbrev MadeBy : InRow → Message → Type 0
MadeBy (Known row values) message = (row_of row.kind ≡ Some row) × (made row.fields row.makes values ≡ message)
MadeBy (Unknown raw) message = messages.Other raw ≡ message

made_by : (message : Message) → MadeBy (in_row message) message
made_by (messages.Other raw) = refl
made_by message = (refl, refl)

pub message_back : (message : Message) → FitsRow (in_row message) → reads (written message) ≡ Ok message
unfolding written
message_back message = by (in_row message) (made_by message)
  where
    by : (there : InRow) → MadeBy there message → FitsRow there → reads (bytes_in there) ≡ Ok message
    by (Known row values) is fit = reads_back row values is.0 fit ∙ ap (λ (m : Message). Ok m) is.1
    by (Unknown raw) is none = sym (unsaid raw none) ∙ ap (λ (m : Message). Ok m) is

-- the bytes of a message, with those of a number as one thing
abbrev laid_in : InRow → List ℕ
laid_in (Known row values) = (2 + length (all_laid row.fields values)) ∷ row.kind ∷ all_laid row.fields values
laid_in (Unknown raw) = raw

pub laid : (message : Message) → FitsRow (in_row message) → written message ≡ laid_in (in_row message)
unfolding written
laid message = by (in_row message)
  where
    by : (there : InRow) → FitsRow there → bytes_in there ≡ laid_in there
    by (Known row values) fit = row_laid row values fit
    by (Unknown raw) none = refl
