-- A Gap Request Proxy that nothing closes: a login and a request, each in a block of its own.
use Rattle.std.proofs.Common.{◌≡◌, ℕ, ◌+◌, ◌<◌, ◌^◌, Bool, true, false, ◌||◌, cond, List, [], ◌∷◌, length, replicate, refl, ap, ◌∙◌, arith, Option, Some, None, is_some, option_map, nat_le}
use Rattle.std.specs.List.{list_any}
use Rattle.std.proofs.lemmas.Bool.{eq-eqb}
use Rattle.std.proofs.lemmas.List.{append-nil}
use Rattle.pitch_messages.specs.Raw.{IsRaw}
use Rattle.pitch_messages.specs.Session.{session_written}
use Rattle.pitch_messages.specs.declared.session.SessionMessage.{SessionMessage}
use Rattle.pitch_messages.specs.declared.session.SessionMessage.TheVariants.{Login, LoginReply, GapRequest}
use Rattle.pitch_messages.proofs.SessionTrip.{login_back, gap_request_back}
use Rattle.unit_packets.specs.Blocks.{IsBlock}
use Rattle.unit_packets.specs.BlockBytes.{session_block}
use Rattle.unit_packets.specs.Causes.{counted}
use Rattle.unit_packets.specs.Cutting.{rest_of}
use Rattle.unit_packets.proofs.Written.{session_is}
use Rattle.unit_packets.proofs.Streams.{of_nothing}
use Rattle.session_ends.specs.declared.closed.Closed.{Closed}
use Rattle.session_ends.specs.declared.closed.CloseCause.{CloseCause}
use Rattle.session_ends.specs.declared.closed.CloseCause.TheVariants.{Silent}
use Rattle.session_ends.specs.declared.inbox.Heard.{Heard}
use Rattle.session_ends.specs.declared.role.Role.TheVariants.{GrpServer}
use Rattle.session_ends.specs.declared.role.Said.{Said}
use Rattle.session_ends.specs.declared.role.Said.TheVariants as said
use Rattle.session_ends.specs.Answering.{Answer, no_answer, followed, answers}
use Rattle.session_ends.specs.Closing.{Setup, closed_of, first_cause, cause_of_message, cause_of_said, logged_in, logs_in, or_else, login_status}
use Rattle.session_ends.specs.Events.{Event, Fed, Ticked, fed_of, silence, is_quiet}
use Rattle.session_ends.specs.Items.{closed_at, messages_from}
use Rattle.session_ends.specs.Saying.{said_to, said_by, is_login}
use Rattle.session_ends.specs.Sending.{message_bytes, new_items}
use Rattle.session_ends.proofs.Inboxes.{items_none}
use Rattle.gap_store.specs.Look.{View}
use Rattle.grp_session.specs.Asking.{status_here}
use Rattle.grp_session.specs.Budget.{Spent}
use Rattle.grp_session.specs.Budget as budget
use Rattle.grp_session.specs.Serving.{Source, grp_answer, said_answer, login_answer, gap_answer, message_answer, proxy_answer}
use Rattle.venue_end.specs.Came.{VenueState, proxy_source}
use Rattle.venue_end.specs.Servers.{limits_of, proxy_setup}
use Rattle.world_model.specs.Ends.{the_account, venue_setup}
use Rattle.world_model.specs.declared.limits.Limits.{Limits}
use Rattle.world_laws.proofs.OneBlock.{place, rest_more, new_is, logged_is, closed_is}

-- a unit's proxy that is open and logged in, behind whole blocks
pub record Serves (unit : ℕ) (limits : Limits) (es : List (Event Source)) : Type 0 where
  pub open_is : closed_of (proxy_setup (venue_setup unit limits)) es ≡ None
  pub whole : rest_of (fed_of es) ≡ []
  pub logged : logged_in GrpServer es ≡ true

-- an end that was fed something since the last tick is still open at the next one
pub tick_open : {X : Type 0} (s : Setup) (es : List (Event X)) → closed_of s es ≡ None → is_quiet es ≡ false → closed_of s (Ticked ∷ es) ≡ None
tick_open s es open_is loud = ap (λ (o : Option Closed). or_else o (closes (is_quiet es))) open_is ∙ ap closes loud
  where
    closes : Bool → Option Closed
    closes b = cond (nat_le 5 (cond b (silence es + 1) 0)) (Some (closed_at Silent (counted (length (fed_of es))))) None

-- ---- One message
-- what is answered to one message that the end reads
module _ (s : Setup) (l : budget.Limits) (logged : Bool) (spent : Spent) (view : View) (at : ℕ) (raw : List ℕ) (m : SessionMessage) (is : said_to s.role raw ≡ said.Message m) (calm : cause_of_message s logged m ≡ None) where
  abbrev a : Answer Spent
  a = message_answer s true l logged spent view m

  on : Said → Option CloseCause → Answer Spent
  on x o =
      followed (said_answer s true l logged spent view x)
      (cond (is_some (option_map (λ (cause : CloseCause). closed_at cause at) o)) (no_answer (said_answer s true l logged spent view x).knows)
      (followed (no_answer (said_answer s true l logged spent view x).knows) (no_answer (said_answer s true l logged spent view x).knows)))

  pub one_answered : answers s (grp_answer s true l) logged spent (view ∷ view ∷ []) (messages_from at (raw ∷ [])) ≡ message_answer s true l logged spent view m
  unfolding on
  one_answered =
      ap (λ (x : Said). on x (cause_of_said s logged x)) is ∙ ap (on (said.Message m)) calm
      ∙ (λ i. record { reply = append-nil a.reply i; lines = append-nil a.lines i; knows = a.knows })

  pub one_calm : first_cause s logged (messages_from at (raw ∷ [])) ≡ None
  one_calm =
      ap (λ (x : Said). or_else (option_map (λ (cause : CloseCause). closed_at cause at) (cause_of_said s logged x)) None) is
      ∙ ap (λ (o : Option CloseCause). or_else (option_map (λ (cause : CloseCause). closed_at cause at) o) None) calm

-- what a proxy sees of the venue at a message
abbrev pub seen_view : Limits → VenueState → View
seen_view limits now = record { messages = now.messages; kept = limits.kept }

-- a block of one message comes to an open end
module _ (unit : ℕ) (limits : Limits) (now : VenueState) (es : List (Event Source)) (m : SessionMessage) (raw_is : IsRaw (session_written m)) (is : said_to GrpServer (session_written m) ≡ said.Message m)
    (open_is : closed_of (proxy_setup (venue_setup unit limits)) es ≡ None) (whole : rest_of (fed_of es) ≡ []) (logged : Bool) (logged_as : logged_in GrpServer es ≡ logged) (calm : cause_of_message (proxy_setup (venue_setup unit limits)) logged m ≡ None) where
  abbrev s : Setup
  s = proxy_setup (venue_setup unit limits)

  abbrev l : budget.Limits
  l = limits_of (venue_setup unit limits)

  abbrev view : View
  view = seen_view limits now

  abbrev raw : List ℕ
  raw = session_written m

  abbrev piece : List ℕ
  piece = message_bytes 0 m

  abbrev source : Source
  source = proxy_source (venue_setup unit limits) now es (message_bytes 0 m)

  block_is : IsBlock piece (session_block 0 raw)
  block_is = session_is 0 raw (omega arith) raw_is

  abbrev p : ℕ
  p = place s es piece (session_block 0 raw) source whole block_is refl

  items_are : new_items es piece ≡ messages_from p (raw ∷ [])
  items_are = new_is s es piece (session_block 0 raw) source whole block_is refl

  pub message_answered : proxy_answer s es piece source ≡ message_answer s true l logged now.spent view m
  message_answered =
      ap (λ (o : Option Closed). cond (is_some o) (no_answer now.spent) (answers s (grp_answer s true l) (logged_in GrpServer es) now.spent source.views (new_items es piece))) open_is
      ∙ ap (λ (i : List Heard). answers s (grp_answer s true l) (logged_in GrpServer es) now.spent (replicate (length i) view) i) items_are
      ∙ ap (λ (b : Bool). answers s (grp_answer s true l) b now.spent (view ∷ view ∷ []) (messages_from p (raw ∷ []))) logged_as
      ∙ one_answered s l logged now.spent view p raw m is calm

  message_open : closed_of s (Fed piece source ∷ es) ≡ None
  message_open =
      closed_is s es piece (session_block 0 raw) source whole block_is refl open_is
      ∙ ap (λ (b : Bool). first_cause s b (messages_from p (raw ∷ []))) logged_as
      ∙ one_calm s l logged now.spent view p raw m is calm

  message_logged : logged_in GrpServer (Fed piece source ∷ es) ≡ (logged || (is_login (said.Message m) || false))
  message_logged =
      logged_is s es piece (session_block 0 raw) source whole block_is refl
      ∙ ap (λ (b : Bool). b || list_any (logs_in GrpServer) (messages_from p (raw ∷ []))) logged_as
      ∙ ap (λ (x : Said). logged || (is_login x || false)) is

  pub message_serves : (logged || (is_login (said.Message m) || false)) ≡ true → Serves unit limits (Fed piece source ∷ es)
  message_serves then_logged = record {
    open_is = message_open;
    whole = rest_more s es piece (session_block 0 raw) source whole block_is refl;
    logged = message_logged ∙ then_logged;
  }

-- ---- The login
abbrev pub login : SessionMessage
login = Login the_account.sub the_account.user the_account.password

login_raw : IsRaw (session_written login)
unfolding session_written
login_raw = record { least = omega arith; most = omega arith; first = refl }

login_said : said_to GrpServer (session_written login) ≡ said.Message login
unfolding session_written
login_said = ap said_by (login_back the_account.sub the_account.user the_account.password refl refl refl)

none_logged : logged_in {X = Source} GrpServer [] ≡ false
none_logged = ap (list_any (logs_in GrpServer)) items_none

module _ (unit : ℕ) (limits : Limits) (now : VenueState) where
  login_calm : cause_of_message (proxy_setup (venue_setup unit limits)) false login ≡ None
  unfolding login_status
  login_calm = refl

  login_accepted : login_status (proxy_setup (venue_setup unit limits)) false the_account.sub the_account.user the_account.password ≡ 65
  unfolding login_status
  login_accepted = refl

  pub login_answered : proxy_answer (proxy_setup (venue_setup unit limits)) [] (message_bytes 0 login) (proxy_source (venue_setup unit limits) now [] (message_bytes 0 login))
      ≡ record { reply = message_bytes 0 (LoginReply 65); lines = []; knows = now.spent }
  login_answered =
      message_answered unit limits now [] login login_raw login_said refl of_nothing.rest false none_logged login_calm
      ∙ ap (λ (status : ℕ). login_answer (proxy_setup (venue_setup unit limits)) status now.spent) login_accepted

  pub login_serves : Serves unit limits (Fed (message_bytes 0 login) (proxy_source (venue_setup unit limits) now [] (message_bytes 0 login)) ∷ [])
  login_serves = message_serves unit limits now [] login login_raw login_said refl of_nothing.rest false none_logged login_calm refl

-- ---- A request
module _ (unit first count : ℕ) (small : first < 256 ^ 4) (few : count < 256 ^ 2) (limits : Limits) (now : VenueState) (es : List (Event Source)) (at : Serves unit limits es) where
  abbrev request : SessionMessage
  request = GapRequest unit first count

  request_raw : IsRaw (session_written (GapRequest unit first count))
  unfolding session_written
  request_raw = record { least = omega arith; most = omega arith; first = refl }

  request_said : said_to GrpServer (session_written (GapRequest unit first count)) ≡ said.Message (GapRequest unit first count)
  unfolding session_written
  request_said = ap said_by (gap_request_back unit first count small few)

  -- one that is accepted
  pub request_answered : status_here true (limits_of (venue_setup unit limits)) (seen_view limits now) now.spent first count ≡ 65
      → proxy_answer (proxy_setup (venue_setup unit limits)) es (message_bytes 0 request) (proxy_source (venue_setup unit limits) now es (message_bytes 0 request))
      ≡ gap_answer (proxy_setup (venue_setup unit limits)) 65 (seen_view limits now) now.spent unit first count
  request_answered accepted =
      let answer : ℕ → Answer Spent = λ status. gap_answer (proxy_setup (venue_setup unit limits)) status (seen_view limits now) now.spent unit first count in
      message_answered unit limits now es request request_raw request_said at.open_is at.whole true at.logged refl
      ∙ ap (λ (b : Bool). answer (cond b (status_here true (limits_of (venue_setup unit limits)) (seen_view limits now) now.spent first count) 73)) (eq-eqb unit unit refl)
      ∙ ap answer accepted

  pub request_serves : Serves unit limits (Fed (message_bytes 0 request) (proxy_source (venue_setup unit limits) now es (message_bytes 0 request)) ∷ es)
  request_serves = message_serves unit limits now es request request_raw request_said at.open_is at.whole true at.logged refl refl

-- ---- A tick
pub tick_serves : (unit : ℕ) (limits : Limits) (es : List (Event Source)) → Serves unit limits es → is_quiet es ≡ false → Serves unit limits (Ticked ∷ es)
tick_serves unit limits es at loud = record { open_is = tick_open (proxy_setup (venue_setup unit limits)) es at.open_is loud; whole = at.whole; logged = at.logged }
