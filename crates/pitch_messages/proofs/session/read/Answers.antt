use Rattle.std.proofs.Common.{◌≡◌, ◌∙◌, ap, None, rules}
use Rattle.pitch_messages.specs.Raw.{kind_of}
use Rattle.pitch_messages.specs.Session.{session_reads, session_row_of}
use Rattle.pitch_messages.proofs.Rows.{session_unsaid}
use Rattle.pitch_messages.proofs.session.read.Goals as goal

pub returns-in_default : goal.returns-in_default
returns-in_default c =
    let none : session_row_of (kind_of c.bytes-bytes.result.now) ≡ None = search rules in
    session_unsaid c.bytes-bytes.result.now none ∙ ap session_reads c.bytes-bytes.ensures.bytes
