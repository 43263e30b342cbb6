-- What a session message says, and its bytes. The rows are message sections of the Cboe US Equities
-- Multicast PITCH specification, for the Gap Request Proxy and the Spin Server.
use Rattle.std.specs.Prelude.{ℕ, List, [], ◌∷◌, Option, Result, Err}
use Rattle.pitch_messages.specs.Fields.{Field, Makes, Number, Byte, Text, Reserved, given}
use Rattle.pitch_messages.specs.Raw.{kind_of}
use Rattle.pitch_messages.specs.Table.{Row, reads_by, row_bytes, row_in, says}
use Rattle.pitch_messages.specs.declared.session.SessionMessage.{SessionMessage}
use Rattle.pitch_messages.specs.declared.session.SessionMessage.TheVariants as session
use Rattle.pitch_messages.specs.declared.session.SessionError.{SessionError}
use Rattle.pitch_messages.specs.declared.session.SessionError.TheVariants.{WrongType, Short}

-- a row of the table of session messages
abbrev pub SessionRow : Type 0
SessionRow = Row SessionMessage

-- a type, its fields, and the message that they make
abbrev session_row : ℕ → (fields : List Field) → Makes fields SessionMessage → SessionRow
session_row kind fields makes = record { kind = kind; fields = fields; makes = makes }

-- ---- The table
-- "Login Message": the session sub id, the user, a filler, and the password
abbrev pub login_row : SessionRow
login_row = session_row 0x01 (Text 4 ∷ Text 4 ∷ Reserved 2 ∷ Text 10 ∷ [])
    (λ sub user filler password. session.Login sub user password)

-- "Login Response Message"
abbrev pub login_reply_row : SessionRow
login_reply_row = session_row 0x02 (Byte ∷ []) session.LoginReply

-- "Gap Request Message": the unit, the first sequence, and how many
abbrev pub gap_request_row : SessionRow
gap_request_row = session_row 0x03 (Byte ∷ Number 4 ∷ Number 2 ∷ []) session.GapRequest

-- "Gap Response Message": the same, and the status
abbrev pub gap_reply_row : SessionRow
gap_reply_row = session_row 0x04 (Byte ∷ Number 4 ∷ Number 2 ∷ Byte ∷ []) session.GapReply

-- "Spin Image Available Message"
abbrev pub spin_available_row : SessionRow
spin_available_row = session_row 0x80 (Number 4 ∷ []) session.SpinAvailable

-- "Spin Request Message"
abbrev pub spin_request_row : SessionRow
spin_request_row = session_row 0x81 (Number 4 ∷ []) session.SpinRequest

-- "Spin Response Message": the sequence, how many orders, and the status
abbrev pub spin_reply_row : SessionRow
spin_reply_row = session_row 0x82 (Number 4 ∷ Number 4 ∷ Byte ∷ []) session.SpinReply

-- "Spin Finished Message"
abbrev pub spin_finished_row : SessionRow
spin_finished_row = session_row 0x83 (Number 4 ∷ []) session.SpinFinished

-- all of them
abbrev pub session_table : List SessionRow
session_table = login_row ∷ login_reply_row ∷ gap_request_row ∷ gap_reply_row
    ∷ spin_available_row ∷ spin_request_row ∷ spin_reply_row ∷ spin_finished_row ∷ []

-- the row of a type
abbrev pub session_row_of : ℕ → Option SessionRow
session_row_of kind = row_in session_table kind

-- what a raw of a row says; no row has a side indicator, which alone can be wrong
abbrev pub session_row_says : SessionRow → List ℕ → Result SessionMessage SessionError
session_row_says row raw = says (λ byte. WrongType row.kind) row raw

-- what a raw says in a session
unfoldable pub session_reads : List ℕ → Result SessionMessage SessionError
session_reads raw = reads_by (λ other. Err (WrongType (kind_of other)))
    (λ needs has. Err (Short needs has)) session_row_says (session_row_of (kind_of raw)) raw

-- the bytes of a message of a row, whose fields say these values, one after another
abbrev bytes_by : (row : SessionRow) → Makes row.fields (List ℕ)
bytes_by row = given row.fields (λ values. row_bytes row values)

-- the bytes of a session message: its length, its type and its fields, end to end
unfoldable pub session_written : SessionMessage → List ℕ
session_written (session.Login sub user password) = bytes_by login_row sub user tt password
session_written (session.LoginReply status) = bytes_by login_reply_row status
session_written (session.GapRequest unit sequence count) =
    bytes_by gap_request_row unit sequence count
session_written (session.GapReply unit sequence count status) =
    bytes_by gap_reply_row unit sequence count status
session_written (session.SpinAvailable sequence) = bytes_by spin_available_row sequence
session_written (session.SpinRequest sequence) = bytes_by spin_request_row sequence
session_written (session.SpinReply sequence orders status) =
    bytes_by spin_reply_row sequence orders status
session_written (session.SpinFinished sequence) = bytes_by spin_finished_row sequence
