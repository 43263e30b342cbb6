-- What the proxy's end of a session says.
use Rattle.std.specs.Prelude.{ℕ, Bool, ◌==◌, List, [], is_some, if◌then◌else◌}
use Rattle.pitch_messages.specs.declared.session.SessionMessage.{SessionMessage}
use Rattle.pitch_messages.specs.declared.session.SessionMessage.TheVariants.{Login, LoginReply}
use Rattle.pitch_messages.specs.declared.session.SessionMessage.TheVariants.{GapRequest, GapReply}
use Rattle.gap_store.specs.Look.{View}
use Rattle.session_ends.specs.declared.role.Said.{Said}
use Rattle.session_ends.specs.declared.role.Said.TheVariants.{Message}
use Rattle.session_ends.specs.Answering.{Answer, Answerer, no_answer, answers}
use Rattle.session_ends.specs.Closing.{Setup, closed_of, logged_in, login_status}
use Rattle.session_ends.specs.Ending.{Ending, EndKnows, known_of}
use Rattle.session_ends.specs.Events.{Event, Fed}
use Rattle.session_ends.specs.Saying.{heard_by}
use Rattle.session_ends.specs.Sending.{sent_bytes, new_items}
use Rattle.grp_session.specs.Asking.{gap_status, datagrams_of, spent_after}
use Rattle.grp_session.specs.Budget.{Limits, Spent}

-- what the proxy has when it is fed: whether a gap source is there, what can be seen of it at each
-- message, the limits, and what was spent before
pub record Source : Type 0 where
  pub there : Bool
  pub views : List View
  pub limits : Limits
  pub spent : Spent

-- ---- One message
-- a login gets its status ("Login Response Message")
abbrev pub login_answer : {S : Type 0} → Setup → ℕ → S → Answer S
login_answer s status state =
    record { reply = sent_bytes s (LoginReply status); lines = []; knows = state }

-- a request gets its status, with its unit, sequence and count ("Gap Response Message")
abbrev pub gap_answer : Setup → ℕ → View → Spent → ℕ → ℕ → ℕ → Answer Spent
gap_answer s status view spent unit sequence count = record {
  reply = sent_bytes s (GapReply unit sequence count status);
  lines = datagrams_of status s.unit view sequence count;
  knows = spent_after status spent;
}

-- a request is answered by the first status that applies, `I` where it names another unit
abbrev pub request_answer : Setup → Bool → Limits → View → Spent → ℕ → ℕ → ℕ → Answer Spent
request_answer s there l view spent unit sequence count = gap_answer s
    (gap_status (unit == s.unit) there l view spent sequence count) view spent unit sequence count

-- what is answered to a message that the end reads, where a login was accepted before or not
abbrev pub message_answer : Setup
    → Bool → Limits → Bool → Spent → View → SessionMessage → Answer Spent
message_answer s there l logged spent view (Login sub user password) =
    login_answer s (login_status s logged sub user password) spent
message_answer s there l logged spent view (GapRequest unit sequence count) =
    if logged then request_answer s there l view spent unit sequence count else no_answer spent
message_answer s there l logged spent view message = no_answer spent

-- nothing is answered to what is skipped or too short
abbrev pub said_answer : Setup → Bool → Limits → Bool → Spent → View → Said → Answer Spent
said_answer s there l logged spent view (Message message) =
    message_answer s there l logged spent view message
said_answer s there l logged spent view said = no_answer spent

-- what is answered to what the stream says next
abbrev pub grp_answer : Setup → Bool → Limits → Answerer Spent View
grp_answer s there l logged spent view item =
    said_answer s there l logged spent view (heard_by s.role item)

-- ---- Over events
-- what is answered when bytes come in: nothing where the end was closed
abbrev pub proxy_answer : Setup → List (Event Source) → List ℕ → Source → Answer Spent
proxy_answer s before bytes source =
    if is_some (closed_of s before) then no_answer source.spent
    else answers s (grp_answer s source.there source.limits)
    (logged_in s.role before) source.spent source.views (new_items before bytes)

-- what is sent at an event that is no tick
abbrev pub grp_sends : Setup → Event Source → List (Event Source) → List ℕ
grp_sends s (Fed bytes source) before = (proxy_answer s before bytes source).reply
grp_sends s event before = []

-- the end stands for what happened to it, the newest first
abbrev pub ProxyStands : Ending → List (Event Source) → Type 0
ProxyStands end es = EndKnows end (known_of (grp_sends end.setup) end.setup es)
