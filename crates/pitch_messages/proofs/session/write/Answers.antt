use Rattle.std.proofs.Common.{◌≡◌, ◌∙◌, ap, sym, arith, rules, Ok}
use Rattle.pitch_messages.specs.Session.{session_reads, session_written}
use Rattle.pitch_messages.specs.declared.session.SessionMessage.{SessionMessage}
use Rattle.pitch_messages.specs.declared.session.SessionMessage.TheVariants as session
use Rattle.pitch_messages.proofs.SessionTrip.{login_back, login_reply_back, gap_request_back, gap_reply_back, spin_available_back, spin_request_back, spin_reply_back, spin_finished_back}
use Rattle.pitch_messages.proofs.session.write.Goals as goal

pub returns-in-Login-clause-reads_back : goal.returns-in-Login-clause-reads_back
returns-in-Login-clause-reads_back c =
    ap session_reads c.login_raw.ensures.written ∙ login_back c.in-Login.sub c.in-Login.user c.in-Login.password c.login_raw.ensures.sub c.login_raw.ensures.user c.login_raw.ensures.password ∙ ap (λ (m : SessionMessage). Ok m) (sym c.in-Login.is)

pub returns-in-LoginReply-clause-reads_back : goal.returns-in-LoginReply-clause-reads_back
unfolding session_written
returns-in-LoginReply-clause-reads_back c =
    let bytes : c.of_fields.result ≡ session_written (session.LoginReply c.in-LoginReply.status) = search rules in
    ap session_reads bytes ∙ login_reply_back c.in-LoginReply.status ∙ ap (λ (m : SessionMessage). Ok m) (sym c.in-LoginReply.is)

pub returns-in-GapRequest-clause-reads_back : goal.returns-in-GapRequest-clause-reads_back
unfolding session_written
returns-in-GapRequest-clause-reads_back c =
    let bytes : c.of_fields-in-GapRequest.result ≡ session_written (session.GapRequest c.in-GapRequest.unit c.in-GapRequest.sequence c.in-GapRequest.count) = search rules in
    ap session_reads bytes ∙ gap_request_back c.in-GapRequest.unit c.in-GapRequest.sequence c.in-GapRequest.count (omega arith) (omega arith) ∙ ap (λ (m : SessionMessage). Ok m) (sym c.in-GapRequest.is)

pub returns-in-GapReply-clause-reads_back : goal.returns-in-GapReply-clause-reads_back
unfolding session_written
returns-in-GapReply-clause-reads_back c =
    let bytes : c.of_fields-in-GapReply.result ≡ session_written (session.GapReply c.in-GapReply.unit c.in-GapReply.sequence c.in-GapReply.count c.in-GapReply.status) = search rules in
    ap session_reads bytes ∙ gap_reply_back c.in-GapReply.unit c.in-GapReply.sequence c.in-GapReply.count c.in-GapReply.status (omega arith) (omega arith) ∙ ap (λ (m : SessionMessage). Ok m) (sym c.in-GapReply.is)

pub returns-in-SpinAvailable-clause-reads_back : goal.returns-in-SpinAvailable-clause-reads_back
unfolding session_written
returns-in-SpinAvailable-clause-reads_back c =
    let bytes : c.of_fields-in-SpinAvailable.result ≡ session_written (session.SpinAvailable c.in-SpinAvailable.sequence) = search rules in
    ap session_reads bytes ∙ spin_available_back c.in-SpinAvailable.sequence (omega arith) ∙ ap (λ (m : SessionMessage). Ok m) (sym c.in-SpinAvailable.is)

pub returns-in-SpinRequest-clause-reads_back : goal.returns-in-SpinRequest-clause-reads_back
unfolding session_written
returns-in-SpinRequest-clause-reads_back c =
    let bytes : c.of_fields-in-SpinRequest.result ≡ session_written (session.SpinRequest c.in-SpinRequest.sequence) = search rules in
    ap session_reads bytes ∙ spin_request_back c.in-SpinRequest.sequence (omega arith) ∙ ap (λ (m : SessionMessage). Ok m) (sym c.in-SpinRequest.is)

pub returns-in-SpinReply-clause-reads_back : goal.returns-in-SpinReply-clause-reads_back
unfolding session_written
returns-in-SpinReply-clause-reads_back c =
    let bytes : c.of_fields-in-SpinReply.result ≡ session_written (session.SpinReply c.in-SpinReply.sequence c.in-SpinReply.orders c.in-SpinReply.status) = search rules in
    ap session_reads bytes ∙ spin_reply_back c.in-SpinReply.sequence c.in-SpinReply.orders c.in-SpinReply.status (omega arith) (omega arith) ∙ ap (λ (m : SessionMessage). Ok m) (sym c.in-SpinReply.is)

pub returns-in-SpinFinished-clause-reads_back : goal.returns-in-SpinFinished-clause-reads_back
unfolding session_written
returns-in-SpinFinished-clause-reads_back c =
    let bytes : c.of_fields-in-SpinFinished.result ≡ session_written (session.SpinFinished c.in-SpinFinished.sequence) = search rules in
    ap session_reads bytes ∙ spin_finished_back c.in-SpinFinished.sequence (omega arith) ∙ ap (λ (m : SessionMessage). Ok m) (sym c.in-SpinFinished.is)
