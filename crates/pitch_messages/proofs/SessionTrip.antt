-- What is read of a session message that was written is that message.
use Rattle.std.proofs.Common.{◌≡◌, ℕ, ◌^◌, ◌<◌, ◌≤◌, List, length, sym, ◌∙◌, arith, Some, Ok, refl}
use Rattle.pitch_messages.specs.Fields.{Values}
use Rattle.pitch_messages.specs.Table.{needs, row_bytes}
use Rattle.pitch_messages.specs.Session.{SessionRow, session_reads, session_written, session_row_of}
use Rattle.pitch_messages.specs.Session as rows
use Rattle.pitch_messages.specs.declared.session.SessionMessage.TheVariants as session
use Rattle.pitch_messages.specs.declared.session.SessionError.TheVariants.{WrongType}
use Rattle.pitch_messages.proofs.Laying.{AllFit, made, row_back, row_size}
use Rattle.pitch_messages.proofs.Rows.{session_said}

-- what a row's fields are written as is read as the message that they make
session_reads_back : (row : SessionRow) (values : Values row.fields) → session_row_of row.kind ≡ Some row → AllFit row.fields values
    → session_reads (row_bytes row values) ≡ Ok (made row.fields row.makes values)
session_reads_back row values at fit =
    let long : needs row ≤ length (row_bytes row values) = omega (arith, row_size row values fit) in
    sym (session_said row (row_bytes row values) row.kind refl at long) ∙ row_back (λ byte. WrongType row.kind) row values fit

pub login_back : (sub : List ℕ) (user : List ℕ) (password : List ℕ) → length sub ≡ 4 → length user ≡ 4 → length password ≡ 10 → session_reads (session_written (session.Login sub user password)) ≡ Ok (session.Login sub user password)
unfolding session_written
login_back sub user password sub_size user_size password_size = session_reads_back rows.login_row (sub, (user, (tt, (password, tt)))) refl (sub_size, (user_size, (tt, (password_size, tt))))

pub login_reply_back : (status : ℕ) → session_reads (session_written (session.LoginReply status)) ≡ Ok (session.LoginReply status)
unfolding session_written
login_reply_back status = session_reads_back rows.login_reply_row (status, tt) refl (tt, tt)

pub gap_request_back : (unit : ℕ) (sequence : ℕ) (count : ℕ) → sequence < 256 ^ 4 → count < 256 ^ 2 → session_reads (session_written (session.GapRequest unit sequence count)) ≡ Ok (session.GapRequest unit sequence count)
unfolding session_written
gap_request_back unit sequence count sequence_fits count_fits = session_reads_back rows.gap_request_row (unit, (sequence, (count, tt))) refl (tt, (sequence_fits, (count_fits, tt)))

pub gap_reply_back : (unit : ℕ) (sequence : ℕ) (count : ℕ) (status : ℕ) → sequence < 256 ^ 4 → count < 256 ^ 2 → session_reads (session_written (session.GapReply unit sequence count status)) ≡ Ok (session.GapReply unit sequence count status)
unfolding session_written
gap_reply_back unit sequence count status sequence_fits count_fits = session_reads_back rows.gap_reply_row (unit, (sequence, (count, (status, tt)))) refl (tt, (sequence_fits, (count_fits, (tt, tt))))

pub spin_available_back : (sequence : ℕ) → sequence < 256 ^ 4 → session_reads (session_written (session.SpinAvailable sequence)) ≡ Ok (session.SpinAvailable sequence)
unfolding session_written
spin_available_back sequence sequence_fits = session_reads_back rows.spin_available_row (sequence, tt) refl (sequence_fits, tt)

pub spin_request_back : (sequence : ℕ) → sequence < 256 ^ 4 → session_reads (session_written (session.SpinRequest sequence)) ≡ Ok (session.SpinRequest sequence)
unfolding session_written
spin_request_back sequence sequence_fits = session_reads_back rows.spin_request_row (sequence, tt) refl (sequence_fits, tt)

pub spin_reply_back : (sequence : ℕ) (orders : ℕ) (status : ℕ) → sequence < 256 ^ 4 → orders < 256 ^ 4 → session_reads (session_written (session.SpinReply sequence orders status)) ≡ Ok (session.SpinReply sequence orders status)
unfolding session_written
spin_reply_back sequence orders status sequence_fits orders_fits = session_reads_back rows.spin_reply_row (sequence, (orders, (status, tt))) refl (sequence_fits, (orders_fits, (tt, tt)))

pub spin_finished_back : (sequence : ℕ) → sequence < 256 ^ 4 → session_reads (session_written (session.SpinFinished sequence)) ≡ Ok (session.SpinFinished sequence)
unfolding session_written
spin_finished_back sequence sequence_fits = session_reads_back rows.spin_finished_row (sequence, tt) refl (sequence_fits, tt)
