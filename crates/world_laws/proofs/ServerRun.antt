-- A Spin Server that nothing closes, event by event.
use Rattle.std.proofs.Common.{◌≡◌, ℕ, ◌+◌, ◌<◌, ◌≤◌, Bool, true, false, ◌||◌, cond, List, [], ◌∷◌, ◌++◌, length, replicate, refl, ap, ◌∙◌, arith, Option, Some, None, is_some, option_map, nat_le}
use Rattle.std.specs.List.{list_any}
use Rattle.pitch_messages.specs.Raw.{IsRaw}
use Rattle.pitch_messages.specs.Session.{session_written}
use Rattle.pitch_messages.specs.declared.session.SessionMessage.{SessionMessage}
use Rattle.pitch_messages.specs.declared.session.SessionMessage.TheVariants.{Login, SpinRequest}
use Rattle.pitch_messages.proofs.SessionTrip.{login_back, spin_request_back}
use Rattle.pitch_fields.specs.Limits.{last_sequence}
use Rattle.unit_packets.specs.BlockBytes.{session_block}
use Rattle.unit_packets.specs.Cutting.{rest_of}
use Rattle.unit_packets.proofs.Written.{session_is}
use Rattle.unit_packets.proofs.Streams.{of_nothing}
use Rattle.session_ends.specs.declared.closed.Closed.{Closed}
use Rattle.session_ends.specs.declared.closed.CloseCause.{CloseCause}
use Rattle.session_ends.specs.declared.closed.CloseCause.TheVariants.{Silent}
use Rattle.unit_packets.specs.Causes.{counted}
use Rattle.session_ends.specs.declared.role.Role.TheVariants.{SpinServer}
use Rattle.session_ends.specs.declared.role.Said.{Said}
use Rattle.session_ends.specs.declared.role.Said.TheVariants as said
use Rattle.session_ends.specs.declared.inbox.Heard.{Heard}
use Rattle.session_ends.specs.Answering.{Answer, no_answer, followed, answers}
use Rattle.session_ends.specs.Closing.{Setup, closed_of, first_cause, cause_of_message, cause_of_said, logged_in, logs_in, or_else, login_status}
use Rattle.session_ends.specs.Events.{Event, Fed, Ticked, Pumped, Told, fed_of, silence, is_quiet}
use Rattle.session_ends.specs.Items.{closed_at, messages_from}
use Rattle.session_ends.specs.Saying.{said_to, said_by, is_login}
use Rattle.session_ends.specs.Sending.{message_bytes, new_items}
use Rattle.session_ends.proofs.Inboxes.{items_none}
use Rattle.spin_server.specs.Served.{Served}
use Rattle.spin_server.specs.Serving.{Spin, spin_answer, spin_said_answer, spin_message_answer, spin_fed_answer, running_spin, pumped}
use Rattle.world_model.specs.Ends.{the_account}
use Rattle.world_laws.proofs.OneBlock.{place, rest_more, new_is, logged_is, closed_is}

-- the Spin Server of a unit, under any limits
abbrev pub spin_server : ℕ → Setup
spin_server unit = record { role = SpinServer; unit = unit; accounts = the_account ∷ []; in_use = false }

-- a server that is open and logged in, behind whole blocks; so many ticks passed in silence
pub record Serves (unit : ℕ) (es : List (Event (List Served))) (spin : Option Spin) : Type 0 where
  pub open_is : closed_of (spin_server unit) es ≡ None
  pub whole : rest_of (fed_of es) ≡ []
  pub logged : logged_in SpinServer es ≡ true
  pub spin_is : running_spin (spin_server unit) es ≡ spin

-- ---- One message
-- what is answered to one message that the end reads
module _ (s : Setup) (logged : Bool) (spin : Option Spin) (view : Served) (at : ℕ) (raw : List ℕ) (m : SessionMessage) (is : said_to s.role raw ≡ said.Message m) (calm : cause_of_message s logged m ≡ None) where
  abbrev a : Answer (Option Spin)
  a = spin_message_answer s logged spin view m

  on : Said → Option CloseCause → Answer (Option Spin)
  on x o =
      followed (spin_said_answer s logged spin view x)
      (cond (is_some (option_map (λ (cause : CloseCause). closed_at cause at) o)) (no_answer (spin_said_answer s logged spin view x).knows)
      (followed (no_answer (spin_said_answer s logged spin view x).knows) (no_answer (spin_said_answer s logged spin view x).knows)))

  pub one_answered : answers s (spin_answer s) logged spin (view ∷ view ∷ []) (messages_from at (raw ∷ [])) ≡ record { reply = a.reply ++ []; lines = a.lines ++ []; knows = a.knows }
  unfolding on
  one_answered = ap (λ (x : Said). on x (cause_of_said s logged x)) is ∙ ap (on (said.Message m)) calm

  pub one_calm : first_cause s logged (messages_from at (raw ∷ [])) ≡ None
  one_calm =
      ap (λ (x : Said). or_else (option_map (λ (cause : CloseCause). closed_at cause at) (cause_of_said s logged x)) None) is
      ∙ ap (λ (o : Option CloseCause). or_else (option_map (λ (cause : CloseCause). closed_at cause at) o) None) calm

-- a block of one message comes to an open end
module _ (unit h : ℕ) (es : List (Event (List Served))) (view : Served) (m : SessionMessage) (small : h < 256) (raw_is : IsRaw (session_written m)) (is : said_to SpinServer (session_written m) ≡ said.Message m)
    (open_is : closed_of (spin_server unit) es ≡ None) (whole : rest_of (fed_of es) ≡ []) (logged : Bool) (logged_as : logged_in SpinServer es ≡ logged) (calm : cause_of_message (spin_server unit) logged m ≡ None) where
  abbrev s : Setup
  s = spin_server unit

  abbrev raw : List ℕ
  raw = session_written m

  abbrev piece : List ℕ
  piece = message_bytes h m

  abbrev pub seen : List Served
  seen = replicate (length (new_items es (message_bytes h m))) view

  abbrev p : ℕ
  p = place s es piece (session_block h raw) seen whole (session_is h raw small raw_is) refl

  items_are : new_items es piece ≡ messages_from p (raw ∷ [])
  items_are = new_is s es piece (session_block h raw) seen whole (session_is h raw small raw_is) refl

  pub message_answered : (spin : Option Spin) → spin_fed_answer s es piece seen spin ≡ record { reply = (spin_message_answer s logged spin view m).reply ++ []; lines = (spin_message_answer s logged spin view m).lines ++ []; knows = (spin_message_answer s logged spin view m).knows }
  message_answered spin =
      ap (λ (o : Option Closed). cond (is_some o) (no_answer spin) (answers s (spin_answer s) (logged_in SpinServer es) spin seen (new_items es piece))) open_is
      ∙ ap (λ (l : List Heard). answers s (spin_answer s) (logged_in SpinServer es) spin (replicate (length l) view) l) items_are
      ∙ ap (λ (b : Bool). answers s (spin_answer s) b spin (view ∷ view ∷ []) (messages_from p (raw ∷ []))) logged_as
      ∙ one_answered s logged spin view p raw m is calm

  pub message_open : closed_of s (Fed piece seen ∷ es) ≡ None
  message_open =
      closed_is s es piece (session_block h raw) seen whole (session_is h raw small raw_is) refl open_is
      ∙ ap (λ (b : Bool). first_cause s b (messages_from p (raw ∷ []))) logged_as
      ∙ one_calm s logged (running_spin s es) view p raw m is calm

  pub message_whole : rest_of (fed_of es ++ piece) ≡ []
  message_whole = rest_more s es piece (session_block h raw) seen whole (session_is h raw small raw_is) refl

  pub message_logged : logged_in SpinServer (Fed piece seen ∷ es) ≡ (logged || (is_login (said.Message m) || false))
  message_logged =
      logged_is s es piece (session_block h raw) seen whole (session_is h raw small raw_is) refl
      ∙ ap (λ (b : Bool). b || list_any (logs_in SpinServer) (messages_from p (raw ∷ []))) logged_as
      ∙ ap (λ (x : Said). logged || (is_login x || false)) is

-- ---- The login
abbrev pub login : SessionMessage
login = Login the_account.sub the_account.user the_account.password

login_raw : IsRaw (session_written login)
unfolding session_written
login_raw = record { least = omega arith; most = omega arith; first = refl }

login_said : said_to SpinServer (session_written login) ≡ said.Message login
unfolding session_written
login_said = ap said_by (login_back the_account.sub the_account.user the_account.password refl refl refl)

login_calm : (unit : ℕ) → cause_of_message (spin_server unit) false login ≡ None
unfolding login_status
login_calm unit = refl

pub login_accepted : (unit : ℕ) → login_status (spin_server unit) false the_account.sub the_account.user the_account.password ≡ 65
unfolding login_status
login_accepted unit = refl

none_logged : logged_in {X = List Served} SpinServer [] ≡ false
none_logged = ap (list_any (logs_in SpinServer)) items_none

module _ (unit : ℕ) (small : unit < 256) (view : Served) where
  abbrev pub login_seen : List Served
  login_seen = replicate (length (new_items {X = List Served} [] (message_bytes unit login))) view

  pub login_answered : spin_fed_answer (spin_server unit) [] (message_bytes unit login) login_seen None
      ≡ record { reply = (spin_message_answer (spin_server unit) false None view login).reply ++ []; lines = (spin_message_answer (spin_server unit) false None view login).lines ++ []; knows = None }
  login_answered = message_answered unit unit [] view login small login_raw login_said refl of_nothing.rest false none_logged (login_calm unit) None

  pub login_serves : Serves unit (Fed (message_bytes unit login) login_seen ∷ []) None
  login_serves = record {
    open_is = message_open unit unit [] view login small login_raw login_said refl of_nothing.rest false none_logged (login_calm unit);
    whole = message_whole unit unit [] view login small login_raw login_said refl of_nothing.rest false none_logged (login_calm unit);
    logged = message_logged unit unit [] view login small login_raw login_said refl of_nothing.rest false none_logged (login_calm unit);
    spin_is = ap (λ (x : Answer (Option Spin)). x.knows) login_answered;
  }

-- ---- A request
module _ (unit : ℕ) (small : unit < 256) (view : Served) (n : ℕ) (few : n ≤ last_sequence) (es : List (Event (List Served))) (at : Serves unit es None) where
  request_raw : IsRaw (session_written (SpinRequest n))
  unfolding session_written
  request_raw = record { least = omega arith; most = omega arith; first = refl }

  request_said : said_to SpinServer (session_written (SpinRequest n)) ≡ said.Message (SpinRequest n)
  unfolding session_written
  request_said = ap said_by (spin_request_back n (omega (arith, few)))

  abbrev pub request_seen : List Served
  request_seen = replicate (length (new_items es (message_bytes unit (SpinRequest n)))) view

  pub request_answered : spin_fed_answer (spin_server unit) es (message_bytes unit (SpinRequest n)) request_seen None
      ≡ record { reply = (spin_message_answer (spin_server unit) true None view (SpinRequest n)).reply ++ []; lines = (spin_message_answer (spin_server unit) true None view (SpinRequest n)).lines ++ []; knows = (spin_message_answer (spin_server unit) true None view (SpinRequest n)).knows }
  request_answered = message_answered unit unit es view (SpinRequest n) small request_raw request_said at.open_is at.whole true at.logged refl None

  pub request_serves : Serves unit (Fed (message_bytes unit (SpinRequest n)) request_seen ∷ es) (spin_message_answer (spin_server unit) true None view (SpinRequest n)).knows
  request_serves = record {
    open_is = message_open unit unit es view (SpinRequest n) small request_raw request_said at.open_is at.whole true at.logged refl;
    whole = message_whole unit unit es view (SpinRequest n) small request_raw request_said at.open_is at.whole true at.logged refl;
    logged = message_logged unit unit es view (SpinRequest n) small request_raw request_said at.open_is at.whole true at.logged refl;
    spin_is =
        ap (λ (o : Option Spin). (spin_fed_answer (spin_server unit) es (message_bytes unit (SpinRequest n)) request_seen o).knows) at.spin_is
        ∙ ap (λ (x : Answer (Option Spin)). x.knows) request_answered;
  }

-- ---- Other events
module _ (unit : ℕ) (es : List (Event (List Served))) (spin : Option Spin) (at : Serves unit es spin) where
  still : (event : Event (List Served)) → closed_of (spin_server unit) (event ∷ es) ≡ or_else (closed_of (spin_server unit) es) None → or_else (closed_of (spin_server unit) es) None ≡ None
  still event e = ap (λ (o : Option Closed). or_else o None) at.open_is

  pub pump_serves : Serves unit (Pumped ∷ es) (pumped spin)
  pump_serves = record { open_is = still Pumped refl; whole = at.whole; logged = at.logged; spin_is = ap pumped at.spin_is }

  pub told_serves : (n : ℕ) → Serves unit (Told n ∷ es) spin
  told_serves n = record { open_is = still (Told n) refl; whole = at.whole; logged = at.logged; spin_is = at.spin_is }

  -- no tick came before this one
  pub tick_serves : silence es ≡ 0 → Serves unit (Ticked ∷ es) spin
  tick_serves none = record {
    open_is = ap (λ (o : Option Closed). or_else o (closes (is_quiet es) (silence es))) at.open_is ∙ ap (closes (is_quiet es)) none ∙ early (is_quiet es);
    whole = at.whole;
    logged = at.logged;
    spin_is = at.spin_is;
  }
    where
      closes : Bool → ℕ → Option Closed
      closes b k = cond (nat_le 5 (cond b (k + 1) 0)) (Some (closed_at Silent (counted (length (fed_of es))))) None

      early : (b : Bool) → closes b 0 ≡ None
      early true = refl
      early false = refl
