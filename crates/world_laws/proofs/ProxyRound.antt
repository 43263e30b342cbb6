-- A connection with the proxy that is opened and carried without losses: the login, and rounds in
-- which the client asks and is answered.
use Rattle.std.proofs.Common.{◌≡◌, ℕ, ◌<◌, ◌^◌, Bool, true, false, ◌&&◌, ◌||◌, cond, List, [], ◌∷◌, ◌++◌, length, refl, ap, ◌∙◌, arith, Option, Some, None, is_some}
use Rattle.std.proofs.lemmas.List.{append-nil}
use Rattle.std.proofs.lemmas.Bool.{ne_eqb, false≢true}
use Rattle.pitch_text.specs.declared.verb.Session.TheVariants.{Grp}
use Rattle.pitch_text.specs.declared.verb.Verb.TheVariants as verbs
use Rattle.pitch_messages.specs.declared.session.SessionMessage.{SessionMessage}
use Rattle.pitch_messages.specs.declared.session.SessionMessage.TheVariants.{LoginReply, GapRequest, GapReply}
use Rattle.unit_packets.specs.BlockBytes.{block_bytes}
use Rattle.unit_packets.specs.Packing.{packed}
use Rattle.unit_packets.proofs.Streams.{of_nothing}
use Rattle.heard_items.specs.declared.item.Item.TheVariants as item
use Rattle.pitch_model.specs.declared.ask.Ask.TheVariants as asks
use Rattle.pitch_model.specs.Asking.{ask_of}
use Rattle.pitch_model.specs.History.{Entry}
use Rattle.pitch_model.specs.History as entry
use Rattle.session_ends.specs.Answering.{Answer}
use Rattle.session_ends.specs.declared.closed.Closed.{Closed}
use Rattle.session_ends.specs.declared.role.Role.TheVariants.{GrpServer, GapLink}
use Rattle.session_ends.specs.Closing.{closed_of, or_else}
use Rattle.session_ends.specs.Events.{Event, Fed, Ticked, Asked, is_quiet}
use Rattle.session_ends.specs.Sending.{message_bytes, heartbeat_bytes, sent_since, some_bytes}
use Rattle.gap_store.specs.Look.{slice_of}
use Rattle.grp_session.specs.Asking.{status_here}
use Rattle.grp_session.specs.Budget.{Spent, next_second, spending}
use Rattle.grp_session.specs.Serving.{Source, grp_sends}
use Rattle.client_links.specs.Linking.{Lookups, NoLookup, link_sends}
use Rattle.client_end.specs.Links.{gap_link, link_says}
use Rattle.venue_end.specs.Came.{proxy_source}
use Rattle.venue_end.specs.Servers.{limits_of, proxy_says, proxy_setup}
use Rattle.world_model.specs.Ends.{venue_setup}
use Rattle.world_model.specs.State.{State}
use Rattle.world_model.specs.Verbs.{next_state}
use Rattle.world_model.specs.declared.limits.Limits.{Limits}
use Rattle.world_laws.proofs.ImageRound.{beat_or_none}
use Rattle.world_laws.proofs.LinkPieces.{IsReady, TellsOf, tells_none, tells_both}
use Rattle.world_laws.proofs.GapHears.{hears_beat, hears_login, hears_reply}
use Rattle.world_laws.proofs.ProxyRun.{Serves, seen_view, tick_open, login, login_answered, login_serves, request_answered, request_serves, tick_serves}
use Rattle.world_laws.proofs.ProxyVerbs.{apart, at, with_heard, asked_at, answered_by, up_step, down_step, tick_step}

-- ---- A connection that stands
-- both ends are open and were fed something since the last tick, and the link has sent something
-- since
pub record Idle (unit : ℕ) (limits : Limits) (server : List (Event Source)) (link : List (Event Lookups)) : Type 0 where
  pub serves : Serves unit limits server
  pub ready : IsReady gap_link link
  pub server_fed : is_quiet server ≡ false
  pub link_fed : is_quiet link ≡ false
  pub link_sent : sent_since (link_sends gap_link) GapLink link ≡ true

-- a message has bytes, and so has a piece that ends with one
has_bytes : (m : SessionMessage) → some_bytes (message_bytes 0 m) ≡ true
unfolding block_bytes
has_bytes m = refl

ends_bytes : (a : List ℕ) (m : SessionMessage) → some_bytes (a ++ message_bytes 0 m) ≡ true
ends_bytes [] m = has_bytes m
ends_bytes (b ∷ a) m = refl

-- an end that is fed some is not quiet
loud : {X : Type 0} (bytes : List ℕ) (seen : X) (es : List (Event X)) → some_bytes bytes ≡ true → is_quiet (Fed bytes seen ∷ es) ≡ false
loud [] seen es some = absurd (false≢true some)
loud (b ∷ bytes) seen es some = ap (λ (z : Bool). z && is_quiet es) (ne_eqb (length (b ∷ bytes)) 0 (λ e. omega arith))

-- what a client has heard once it asked and was answered
abbrev pub answered_heard : ℕ → ℕ → List Entry → List Entry
answered_heard first count E = entry.GapReply true ∷ entry.Ticked (Some (asks.Gap first count)) ∷ E

-- ---- The login
module _ (unit : ℕ) (limits : Limits) (s : State) where
  abbrev L : List ℕ
  L = message_bytes 0 login

  abbrev W0 : List ℕ
  W0 = message_bytes 0 (LoginReply 65)

  -- what happened at both ends
  abbrev pub logged_server : List (Event Source)
  logged_server = Fed (message_bytes 0 login) (proxy_source (venue_setup unit limits) s.venue [] (message_bytes 0 login)) ∷ []

  abbrev pub logged_link : List (Event Lookups)
  logged_link = Fed (message_bytes 0 (LoginReply 65)) NoLookup ∷ []

  login_heard : TellsOf gap_link [] W0 (item.GrpUp ∷ [])
  login_heard = hears_login [] (record { open_is = refl; whole = of_nothing.rest })

  pub login_state : next_state unit limits (verbs.Down Grp None) (next_state unit limits (verbs.Up Grp None) (next_state unit limits (verbs.Connect Grp) (apart s)))
      ≡ at [] [] logged_server logged_link (with_heard (entry.GrpUp ∷ s.client.heard) s)
  login_state =
      let carried : next_state unit limits (verbs.Up Grp None) (at L [] [] [] s) ≡ at [] W0 logged_server [] s =
      up_step unit limits [] [] s L [] ∙ ap (λ (a : Answer Spent). at [] a.reply logged_server [] (answered_by a s)) (login_answered unit limits s.venue)
      ∙ ap (λ (lines : List (List ℕ)). at [] W0 logged_server [] (record s { replayed = lines })) (append-nil s.replayed) in
      ap (next_state unit limits (verbs.Down Grp None)) carried ∙ down_step unit limits logged_server [] s W0 (item.GrpUp ∷ []) login_heard

  pub login_idle : Idle unit limits logged_server logged_link
  login_idle = record {
    serves = login_serves unit limits s.venue;
    ready = login_heard.after;
    server_fed = loud (message_bytes 0 login) (proxy_source (venue_setup unit limits) s.venue [] (message_bytes 0 login)) [] (has_bytes login);
    link_fed = loud (message_bytes 0 (LoginReply 65)) NoLookup [] (has_bytes (LoginReply 65));
    link_sent = refl;
  }

-- ---- A round
-- the messages that were asked for, on the gap line
abbrev pub brought : ℕ → Limits → ℕ → ℕ → State → List (List ℕ)
brought unit limits first count s = packed unit first (slice_of (seen_view limits s.venue) first count)

-- how a request for them is answered
abbrev pub accepted_answer : ℕ → Limits → ℕ → ℕ → State → Answer Spent
accepted_answer unit limits first count s = record { reply = message_bytes 0 (GapReply unit first count 65); lines = brought unit limits first count s; knows = spending (next_second s.venue.spent) }

-- the state once that was heard
abbrev pub answered : ℕ → Limits → ℕ → ℕ → State → State
answered unit limits first count s = with_heard (answered_heard first count s.client.heard) (answered_by (accepted_answer unit limits first count s) (asked_at (Some (asks.Gap first count)) s))

-- three verbs led there from a connection that stood
pub record Answered (unit : ℕ) (limits : Limits) (first count : ℕ) (s before : State) : Type 0 where
  pub server : List (Event Source)
  pub link : List (Event Lookups)
  pub idle : Idle unit limits server link
  pub is : next_state unit limits (verbs.Down Grp None) (next_state unit limits (verbs.Up Grp None) (next_state unit limits verbs.Tick before)) ≡ at [] [] server link (answered unit limits first count s)

module _ (unit : ℕ) (limits : Limits) (server : List (Event Source)) (link : List (Event Lookups)) (s : State) (r : Idle unit limits server link)
    (first count : ℕ) (small : first < 256 ^ 4) (few : count < 256 ^ 2) (asked : ask_of limits.hold s.client.heard ≡ Some (asks.Gap first count))
    (accepted : status_here true (limits_of (venue_setup unit limits)) (seen_view limits s.venue) (next_second s.venue.spent) first count ≡ 65) where
  abbrev R : List ℕ
  R = message_bytes 0 (GapRequest unit first count)

  abbrev reply : List ℕ
  reply = message_bytes 0 (GapReply unit first count 65)

  -- ---- The tick
  open_link : closed_of gap_link (Ticked ∷ link) ≡ None
  open_link = tick_open gap_link link r.ready.open_is r.link_fed

  ticked_serves : Serves unit limits (Ticked ∷ server)
  ticked_serves = tick_serves unit limits server r.serves r.server_fed

  abbrev link2 : List (Event Lookups)
  link2 = Asked (GapRequest unit first count) ∷ Ticked ∷ link

  link_silent : link_says gap_link Ticked link ≡ []
  link_silent =
      ap (λ (o : Option Closed). cond (is_some o) [] (cond (sent_since (link_sends gap_link) GapLink link) [] (heartbeat_bytes 0))) open_link
      ∙ ap (λ (b : Bool). cond b [] (heartbeat_bytes 0)) r.link_sent

  link_asks : link_says gap_link (Asked (GapRequest unit first count)) (Ticked ∷ link) ≡ R
  link_asks = ap (λ (o : Option Closed). cond (is_some o) [] (message_bytes 0 (GapRequest unit first count))) open_link

  W : List ℕ
  W = beat_or_none 0 (sent_since (grp_sends (proxy_setup (venue_setup unit limits))) GrpServer server)

  server_beats : proxy_says (venue_setup unit limits) Ticked server ≡ W
  unfolding W beat_or_none
  server_beats = ap (λ (o : Option Closed). cond (is_some o) [] (cond (sent_since (grp_sends (proxy_setup (venue_setup unit limits))) GrpServer server) [] (heartbeat_bytes 0))) ticked_serves.open_is

  abbrev s1 : State
  s1 = asked_at (Some (asks.Gap first count)) s

  ticked_state : next_state unit limits verbs.Tick (at [] [] server link s) ≡ at R W (Ticked ∷ server) link2 s1
  ticked_state = tick_step unit limits server link s first count open_link asked ∙ (λ i. at (link_silent i ++ link_asks i) (server_beats i) (Ticked ∷ server) link2 s1)

  -- ---- The request
  abbrev seen : Source
  seen = proxy_source (venue_setup unit limits) s1.venue (Ticked ∷ server) R

  abbrev answer : Answer Spent
  answer = accepted_answer unit limits first count s

  abbrev asked_server : List (Event Source)
  asked_server = Fed R seen ∷ Ticked ∷ server

  abbrev B : List ℕ
  B = W ++ message_bytes 0 (GapReply unit first count 65)

  up_state : next_state unit limits (verbs.Up Grp None) (at R W (Ticked ∷ server) link2 s1) ≡ at [] B asked_server link2 (answered_by answer s1)
  up_state =
      up_step unit limits (Ticked ∷ server) link2 s1 R W
      ∙ ap (λ (a : Answer Spent). at [] (W ++ a.reply) asked_server link2 (answered_by a s1)) (request_answered unit first count small few limits s1.venue (Ticked ∷ server) ticked_serves accepted)

  -- ---- The reply
  link_ready : IsReady gap_link link2
  link_ready = record { open_is = ap (λ (o : Option Closed). or_else o None) open_link; whole = r.ready.whole }

  beat_told : (b : Bool) → TellsOf gap_link link2 (beat_or_none 0 b) []
  unfolding beat_or_none
  beat_told true = tells_none gap_link link2 link_ready
  beat_told false = hears_beat link2 link_ready

  reply_told : TellsOf gap_link link2 B (item.GapReply first count 65 ∷ [])
  unfolding W
  reply_told =
      let beat = beat_told (sent_since (grp_sends (proxy_setup (venue_setup unit limits))) GrpServer server) in
      tells_both gap_link link2 W reply [] (item.GapReply first count 65 ∷ []) beat (hears_reply (Fed W NoLookup ∷ link2) beat.after unit first count 65 small few)

  pub answers_round : Answered unit limits first count s (at [] [] server link s)
  answers_round = record {
    server = asked_server;
    link = Fed B NoLookup ∷ link2;
    idle = record {
      serves = request_serves unit first count small few limits s1.venue (Ticked ∷ server) ticked_serves;
      ready = reply_told.after;
      server_fed = loud R seen (Ticked ∷ server) (has_bytes (GapRequest unit first count));
      link_fed = loud B NoLookup link2 (ends_bytes W (GapReply unit first count 65));
      link_sent = ap (λ (o : Option Closed). some_bytes (cond (is_some o) [] (message_bytes 0 (GapRequest unit first count))) || false) open_link ∙ ap (λ (b : Bool). b || false) (has_bytes (GapRequest unit first count));
    };
    is = ap (λ (x : State). next_state unit limits (verbs.Down Grp None) (next_state unit limits (verbs.Up Grp None) x)) ticked_state
        ∙ ap (next_state unit limits (verbs.Down Grp None)) up_state
        ∙ down_step unit limits asked_server link2 (answered_by answer s1) B (item.GapReply first count 65 ∷ []) reply_told;
  }
