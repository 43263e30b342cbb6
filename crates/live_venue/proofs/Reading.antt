-- A piece of the input that was read.
use Rattle.std.proofs.Common.{◌≡◌, ℕ, List, ◌++◌, ap, ◌∙◌, Option, None, Result, Ok, Err, IfOk}
use Rattle.pitch_fields.specs.declared.memory.OutOfMemory.{OutOfMemory}
use Rattle.unit_commands.specs.Pieces.{UnreadText, lines_passed, piece_pushed, read_through}
use Rattle.unit_commands.proofs.ReadLemmas.{piece_read}
use Rattle.live_venue.specs.declared.fault.InputFault.{InputFault}

-- whatever was said of it, where its whole lines were passed
pub reads_piece : (answer : Result (Option InputFault) OutOfMemory) (old now : UnreadText) (piece : List ℕ) → now ≡ lines_passed (piece_pushed old piece)
    → IfOk answer (λ fault. (read : List ℕ) → old ≡ read_through read → fault ≡ None → now ≡ read_through (read ++ piece))
reads_piece (Err error) old now piece is = tt
reads_piece (Ok fault) old now piece is = λ read was none. is ∙ ap (λ (text : UnreadText). lines_passed (piece_pushed text piece)) was ∙ piece_read read piece
