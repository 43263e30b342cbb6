use Rattle.std.proofs.Common.{◌≡◌, ◌∙◌, ℕ, List, ap, None, Ok, rules}
use Rattle.pitch_messages.specs.declared.message.Message.TheVariants as messages
use Rattle.pitch_messages.specs.Raw.{kind_of}
use Rattle.pitch_messages.specs.Reading.{row_of}
use Rattle.pitch_messages.proofs.Rows.{unsaid}
use Rattle.pitch_messages.proofs.reading.read_as.Goals as goal

pub returns-in_default : goal.returns-in_default
returns-in_default c =
    let none : row_of (kind_of c.args.bytes.now) ≡ None = search rules in
    ap (λ (raw : List ℕ). Ok (messages.Other raw)) c.of.ensures ∙ unsaid c.args.bytes.now none
