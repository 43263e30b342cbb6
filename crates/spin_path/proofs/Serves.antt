-- A Spin Server over its events, against what a link would tell of its bytes.
use Rattle.std.proofs.Common.{◌≡◌, ℕ, ◌-◌, ◌<◌, ◌≤◌, Bool, true, false, cond, ◌||◌, List, [], ◌∷◌, ◌++◌, length, refl, sym, ap, ◌∙◌, subst, arith, append_assoc, length-append, Option, Some, None, is_some, nat_eq}
use Rattle.std.specs.List.{AllByRecursion}
use Rattle.std.proofs.lemmas.List.{append-nil}
use Rattle.pitch_fields.proofs.Lists.{all_drop, all_get, all_found}
use Rattle.pitch_messages.specs.declared.session.SessionMessage.{SessionMessage}
use Rattle.pitch_messages.specs.declared.session.SessionMessage.TheVariants.{Login, LoginReply, GapRequest, GapReply, SpinAvailable, SpinRequest, SpinReply, SpinFinished}
use Rattle.pitch_model.specs.History.{Raw}
use Rattle.session_ends.specs.declared.closed.Closed.{Closed}
use Rattle.session_ends.specs.declared.inbox.Heard.{Heard}
use Rattle.session_ends.specs.declared.role.Said.{Said}
use Rattle.session_ends.specs.declared.role.Said.TheVariants as said
use Rattle.session_ends.specs.Answering.{Answer, no_answer, answers}
use Rattle.session_ends.specs.Closing.{Setup, cause_of, closed_of, closes_at, logged_in, logs_in, login_status, or_else}
use Rattle.session_ends.specs.Events.{Event, Fed, Ticked, Asked, Pumped, Told}
use Rattle.session_ends.specs.Saying.{heard_by}
use Rattle.session_ends.specs.Sending.{sent_bytes, header_unit, heartbeat_bytes, sent_since, new_items}
use Rattle.session_ends.proofs.Ends.{or_parts}
use Rattle.pitch_model.specs.Advertising.{last_ten, newest_of}
use Rattle.spin_server.specs.Served.{Served, is_served}
use Rattle.spin_server.specs.Serving.{Spin, available_bytes, next_block, spin_left, spin_login_answer, spin_message_answer, spin_said_answer, spin_answer, served_answer, spin_request_answer, refusal_answer, pump_bytes, pumped, tell_bytes, running_spin, spin_sends}
use Rattle.spin_path.specs.Paths.{IsShown, MayServe, all_said, says_at}
use Rattle.spin_path.specs.PathLaws.{IsFeed}
use Rattle.spin_path.proofs.Sending.{Sent, Serves, nothing_sent, serves_none, serves_beat, serves_login, serves_available, serves_refusal, serves_image, serves_finished, serves_datagram}

-- ---- What a view shows
served_within : (V : List Raw) (view : Served) (n : ℕ) → IsShown V view → is_served view n ≡ true → n ≤ length view.messages
served_within V view n shown e = all_found (λ k. k ≤ length view.messages) (last_ten view.advertised) n (all_drop (λ k. k ≤ length view.messages) (length view.advertised - 10) view.advertised shown.within) e

newest_within : (V : List Raw) (view : Served) (n : ℕ) → IsShown V view → newest_of view.advertised ≡ Some n → n ≤ length V
newest_within V view n shown e =
    let le = all_get (λ k. k ≤ length view.messages) view.advertised (length view.advertised - 1) n shown.within e in
    omega (arith, le, ap length shown.messages_are, length-append view.messages shown.more)

-- ---- Answers
module _ (V : List Raw) (venues : IsFeed V) (s : Setup) (small : header_unit s.role s.unit < 256) where
  abbrev h : ℕ
  h = header_unit s.role s.unit

  abbrev Does : List ℕ → Answer (Option Spin) → Type 0
  Does bytes a = Serves V h s.unit (bytes ++ a.reply) a.knows

  does_login : (bytes : List ℕ) (status : ℕ) (view : Served) (spin : Option Spin) → IsShown V view → Serves V h s.unit bytes spin → Does bytes (spin_login_answer s status view spin)
  does_login bytes status view spin shown sv = by (nat_eq status 65) (newest_of view.advertised) refl
    where
      reply : List ℕ
      reply = sent_bytes s (LoginReply status)

      first : Serves V h s.unit (bytes ++ reply) spin
      first = serves_login V h s.unit bytes spin sv small status

      by : (b : Bool) (o : Option ℕ) → newest_of view.advertised ≡ o → Serves V h s.unit (bytes ++ (reply ++ cond b (available_bytes s o) [])) spin
      by true (Some n) is =
          subst (λ (l : List ℕ). Serves V h s.unit l spin) (append_assoc bytes reply (sent_bytes s (SpinAvailable n)))
          (serves_available V h s.unit (bytes ++ reply) spin first small venues n (newest_within V view n shown is))
      by true None is = subst (λ (l : List ℕ). Serves V h s.unit l spin) (append_assoc bytes reply []) (serves_none V h s.unit (bytes ++ reply) spin first)
      by false o is = subst (λ (l : List ℕ). Serves V h s.unit l spin) (append_assoc bytes reply []) (serves_none V h s.unit (bytes ++ reply) spin first)

  does_served : (bytes : List ℕ) (view : Served) (n : ℕ) (spin : Option Spin) → IsShown V view → is_served view n ≡ true → Serves V h s.unit bytes spin → Does bytes (served_answer s view n spin)
  does_served bytes view n (Some spin) shown is sv = serves_refusal V h s.unit bytes (Some spin) sv small n 83 refl
  does_served bytes view n None shown is sv = serves_image V h s.unit bytes None sv small venues refl view.messages shown.more n shown.messages_are (served_within V view n shown is)

  does_request : (bytes : List ℕ) (view : Served) (n : ℕ) (spin : Option Spin) → IsShown V view → Serves V h s.unit bytes spin → Does bytes (spin_request_answer s view n spin)
  does_request bytes view n spin shown sv = by (is_served view n) refl
    where
      by : (b : Bool) → is_served view n ≡ b → Does bytes (cond b (served_answer s view n spin) (refusal_answer s n 79 spin))
      by true is = does_served bytes view n spin shown is sv
      by false is = serves_refusal V h s.unit bytes spin sv small n 79 refl

  does_early : (bytes : List ℕ) (logged : Bool) (view : Served) (n : ℕ) (spin : Option Spin) → IsShown V view → Serves V h s.unit bytes spin → Does bytes (cond logged (spin_request_answer s view n spin) (no_answer spin))
  does_early bytes true view n spin shown sv = does_request bytes view n spin shown sv
  does_early bytes false view n spin shown sv = serves_none V h s.unit bytes spin sv

  does_message : (bytes : List ℕ) (logged : Bool) (spin : Option Spin) (view : Served) (m : SessionMessage) → IsShown V view → Serves V h s.unit bytes spin → Does bytes (spin_message_answer s logged spin view m)
  does_message bytes logged spin view (Login sub user password) shown sv = does_login bytes (login_status s logged sub user password) view spin shown sv
  does_message bytes logged spin view (SpinRequest n) shown sv = does_early bytes logged view n spin shown sv
  does_message bytes logged spin view (LoginReply status) shown sv = serves_none V h s.unit bytes spin sv
  does_message bytes logged spin view (GapRequest unit n count) shown sv = serves_none V h s.unit bytes spin sv
  does_message bytes logged spin view (GapReply unit n count status) shown sv = serves_none V h s.unit bytes spin sv
  does_message bytes logged spin view (SpinAvailable n) shown sv = serves_none V h s.unit bytes spin sv
  does_message bytes logged spin view (SpinReply n orders status) shown sv = serves_none V h s.unit bytes spin sv
  does_message bytes logged spin view (SpinFinished n) shown sv = serves_none V h s.unit bytes spin sv

  does_said : (bytes : List ℕ) (logged : Bool) (spin : Option Spin) (view : Served) (x : Said) → IsShown V view → Serves V h s.unit bytes spin → Does bytes (spin_said_answer s logged spin view x)
  does_said bytes logged spin view (said.Message m) shown sv = does_message bytes logged spin view m shown sv
  does_said bytes logged spin view said.Skipped shown sv = serves_none V h s.unit bytes spin sv
  does_said bytes logged spin view said.TooShort shown sv = serves_none V h s.unit bytes spin sv

  does_all : (bytes : List ℕ) (logged : Bool) (spin : Option Spin) (views : List Served) (items : List Heard) → AllByRecursion (IsShown V) views → Serves V h s.unit bytes spin → Does bytes (answers s (spin_answer s) logged spin views items)
  does_all bytes logged spin [] items shown sv = serves_none V h s.unit bytes spin sv
  does_all bytes logged spin (view ∷ views) [] shown sv = serves_none V h s.unit bytes spin sv
  does_all bytes logged spin (view ∷ views) (item ∷ items) shown sv =
      by (is_some (cause_of s logged item)) (λ sw. does_all (bytes ++ (spin_answer s logged spin view item).reply) (logged || logs_in s.role item) (spin_answer s logged spin view item).knows views items shown.1 sw)
    where
      a : Answer (Option Spin)
      a = spin_answer s logged spin view item

      first : Does bytes a
      first = does_said bytes logged spin view (heard_by s.role item) shown.0 sv

      rest : Answer (Option Spin)
      rest = answers s (spin_answer s) (logged || logs_in s.role item) a.knows views items

      by : (b : Bool) → (Does bytes a → Does (bytes ++ a.reply) rest) → Serves V h s.unit (bytes ++ (a.reply ++ (cond b (no_answer a.knows) rest).reply)) (cond b (no_answer a.knows) rest).knows
      by true more = subst (λ (l : List ℕ). Serves V h s.unit l a.knows) (append_assoc bytes a.reply []) (serves_none V h s.unit (bytes ++ a.reply) a.knows first)
      by false more = subst (λ (l : List ℕ). Serves V h s.unit l rest.knows) (append_assoc bytes a.reply rest.reply) (more first)

  -- ---- Other events
  does_pump : (bytes : List ℕ) (spin : Option Spin) → Serves V h s.unit bytes spin → Serves V h s.unit (bytes ++ pump_bytes s spin) (pumped spin)
  does_pump bytes None sv = serves_none V h s.unit bytes None sv
  does_pump bytes (Some spin) sv = by spin.left refl
    where
      by : (left : List (List ℕ)) → spin.left ≡ left → Serves V h s.unit (bytes ++ next_block s spin.sequence left) (spin_left spin.sequence left)
      by [] is = serves_finished V h s.unit bytes (Some spin) sv small venues spin.sequence (ap (λ (l : List (List ℕ)). Some (record { sequence = spin.sequence; left = l })) is)
      by (datagram ∷ datagrams) is = serves_datagram V h s.unit bytes (Some spin) sv spin.sequence datagram datagrams (ap (λ (l : List (List ℕ)). Some (record { sequence = spin.sequence; left = l })) is)

  does_told : (bytes : List ℕ) (logged : Bool) (spin : Option Spin) (n : ℕ) → n ≤ length V → Serves V h s.unit bytes spin → Serves V h s.unit (bytes ++ tell_bytes s logged spin n) spin
  does_told bytes logged (Some spin) n within sv = serves_none V h s.unit bytes (Some spin) sv
  does_told bytes true None n within sv = serves_available V h s.unit bytes None sv small venues n within
  does_told bytes false None n within sv = serves_none V h s.unit bytes None sv

  does_tick : (bytes : List ℕ) (spin : Option Spin) (shut sent : Bool) → Serves V h s.unit bytes spin → Serves V h s.unit (bytes ++ cond shut [] (cond sent [] (heartbeat_bytes h))) spin
  does_tick bytes spin true sent sv = serves_none V h s.unit bytes spin sv
  does_tick bytes spin false true sv = serves_none V h s.unit bytes spin sv
  does_tick bytes spin false false sv = serves_beat V h s.unit bytes spin sv small

  -- ---- Over events
  pub record Holds (es : List (Event (List Served))) : Type 0 where
    pub sent : Sent V s.unit (all_said s es)
    pub serves : closed_of s es ≡ None → Serves V h s.unit (all_said s es) (running_spin s es)

  holds_on : (event : Event (List Served)) (es : List (Event (List Served))) → Holds es
      → (closed_of s es ≡ None → Serves V h s.unit (all_said s es) (running_spin s es) → Serves V h s.unit (all_said s es ++ says_at s event es) (running_spin s (event ∷ es)))
      → ((c : Closed) → closed_of s es ≡ Some c → says_at s event es ≡ []) → Holds (event ∷ es)
  holds_on event es held open_does shut_says = by (closed_of s es) refl
    where
      by : (o : Option Closed) → closed_of s es ≡ o → Holds (event ∷ es)
      by None is = let x = open_does is (held.serves is) in record { sent = x.sent; serves = λ on. x }
      by (Some c) is = record {
        sent = subst (Sent V s.unit) (sym (ap (λ (l : List ℕ). all_said s es ++ l) (shut_says c is) ∙ append-nil (all_said s es))) held.sent;
        serves = λ on. cc (is, (or_parts (closed_of s es) _ on).0);
      }

  pub holds : (es : List (Event (List Served))) → AllByRecursion (MayServe V) es → Holds es
  holds [] may = let x = nothing_sent V h s.unit in record { sent = x.sent; serves = λ on. x }
  holds (Fed bytes views ∷ es) may =
      let fed : Option Closed → Answer (Option Spin) = λ o. cond (is_some o) (no_answer (running_spin s es)) (answers s (spin_answer s) (logged_in s.role es) (running_spin s es) views (new_items es bytes)) in
      holds_on (Fed bytes views) es (holds es may.1)
      (λ is sv. subst (λ (o : Option Closed). Does (all_said s es) (fed o)) (sym is) (does_all (all_said s es) (logged_in s.role es) (running_spin s es) views (new_items es bytes) may.0 sv))
      (λ c is. ap (λ (o : Option Closed). (fed o).reply) is)
  holds (Ticked ∷ es) may =
      holds_on Ticked es (holds es may.1)
      (λ is sv. does_tick (all_said s es) (running_spin s es) (is_some (closed_of s (Ticked ∷ es))) (sent_since (spin_sends s) s.role es) sv)
      (λ c is. ap (λ (o : Option Closed). cond (is_some (or_else o (closes_at s Ticked es))) [] (cond (sent_since (spin_sends s) s.role es) [] (heartbeat_bytes h))) is)
  holds (Pumped ∷ es) may =
      holds_on Pumped es (holds es may.1)
      (λ is sv. subst (λ (o : Option Closed). Serves V h s.unit (all_said s es ++ cond (is_some o) [] (pump_bytes s (running_spin s es))) (pumped (running_spin s es))) (sym is) (does_pump (all_said s es) (running_spin s es) sv))
      (λ c is. ap (λ (o : Option Closed). cond (is_some o) [] (pump_bytes s (running_spin s es))) is)
  holds (Told n ∷ es) may =
      holds_on (Told n) es (holds es may.1)
      (λ is sv. subst (λ (o : Option Closed). Serves V h s.unit (all_said s es ++ cond (is_some o) [] (tell_bytes s (logged_in s.role es) (running_spin s es) n)) (running_spin s es)) (sym is)
      (does_told (all_said s es) (logged_in s.role es) (running_spin s es) n may.0 sv))
      (λ c is. ap (λ (o : Option Closed). cond (is_some o) [] (tell_bytes s (logged_in s.role es) (running_spin s es) n)) is)
  holds (Asked request ∷ es) may =
      holds_on (Asked request) es (holds es may.1) (λ is sv. serves_none V h s.unit (all_said s es) (running_spin s es) sv) (λ c is. refl)
