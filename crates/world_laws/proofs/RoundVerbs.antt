-- The verbs of a recovery by an image, one after another, where the proxy is gone.
use Rattle.std.proofs.Common.{◌≡◌, ℕ, zero, suc, ◌+◌, Bool, true, false, cond, List, [], ◌∷◌, ◌++◌, length, take, drop, replicate, refl, ap, ◌∙◌, Option, Some, None, is_some, nat_le}
use Rattle.std.proofs.lemmas.List.{append-nil}
use Rattle.pitch_text.specs.declared.verb.Session.TheVariants.{Grp as GrpSession, Spin as SpinSession}
use Rattle.pitch_text.specs.declared.verb.Verb.TheVariants as verbs
use Rattle.pitch_messages.specs.declared.session.SessionMessage.TheVariants.{SpinRequest}
use Rattle.unit_packets.specs.Causes.{counted}
use Rattle.heard_items.specs.declared.item.Item.{Item}
use Rattle.pitch_model.specs.declared.ask.Ask.{Ask}
use Rattle.pitch_model.specs.declared.ask.Ask.TheVariants as asks
use Rattle.pitch_model.specs.Advertising.{last_ten}
use Rattle.pitch_model.specs.Asking.{ask_of}
use Rattle.pitch_model.specs.History.{Entry, SpinDown}
use Rattle.pitch_model.specs.History as entry
use Rattle.session_ends.specs.declared.closed.Closed.{Closed}
use Rattle.session_ends.specs.declared.closed.CloseCause.TheVariants.{Silent}
use Rattle.session_ends.specs.Closing.{closed_of, or_else}
use Rattle.session_ends.specs.Events.{Event, Fed, Ticked, Asked, fed_of, silence, is_quiet}
use Rattle.session_ends.specs.Items.{closed_at}
use Rattle.session_ends.specs.Sending.{new_items}
use Rattle.grp_session.specs.Budget.{Spent, next_second}
use Rattle.spin_server.specs.Served.{Served}
use Rattle.client_links.specs.Linking.{Lookups, NoLookup, link_tells}
use Rattle.heard_items.specs.Heard.{heard_all}
use Rattle.client_end.specs.Came.{EndSetup, EndState, ask_sent, both_links_tick, asks_proxy, asks_spin_server, with_spin}
use Rattle.client_end.specs.Links.{gap_link, spin_link, link_says}
use Rattle.client_end.specs.Sessions.{SessionState, place_says}
use Rattle.sending_end.specs.Waiting.{kept_for}
use Rattle.venue_end.specs.Came.{SpinPumped, SpinPut, Second, venue_step}
use Rattle.venue_end.specs.Servers.{spin_says}
use Rattle.venue_end.specs.Sessions.{Session}
use Rattle.world_model.specs.Ends.{venue_setup, client_setup, the_session}
use Rattle.world_model.specs.State.{State, up_taken}
use Rattle.world_model.specs.Verbs.{done, next_state, venue_has, settled, pumped, server_fed, link_fed}
use Rattle.world_model.specs.declared.limits.Limits.{Limits}
use Rattle.world_model.specs.declared.outcome.Outcome.TheVariants as outcome
use Rattle.world_laws.proofs.Joined.{Link, one_session, carried_all, all_of, none_of}
use Rattle.world_laws.proofs.LinkHears.{Hears}
use Rattle.world_laws.proofs.ImageRound.{SpinConnection, at_server, pumped_times, sent_whole, pumps_at}

-- ---- A state in which no connection with the proxy stands
abbrev pub spins_of : Option SpinConnection → List (Session (List Served))
spins_of None = []
spins_of (Some c) = one_session c.server c.down

abbrev pub link_in : Option SpinConnection → Link
link_in None = None
link_in (Some c) = Some c.link

abbrev pub up_in : Option SpinConnection → List ℕ
up_in None = []
up_in (Some c) = c.up

abbrev pub at : State → Spent → List ℕ → Option SpinConnection → List Entry → State
at s spent advertised spin heard = record s {
  begun = true;
  venue = record s.venue { advertised = advertised; spent = spent; proxies = []; spins = spins_of spin };
  client = record { heard = heard; grp = None; spin = link_in spin };
  grp_up = [];
  spin_up = up_in spin;
}

-- what happened at the link once it was asked through
abbrev pub asked_link : Option Ask → List (Event Lookups) → List (Event Lookups)
asked_link (Some (asks.Spin n)) ls = Asked (SpinRequest n) ∷ ls
asked_link ask ls = ls

-- a link that was fed since the last tick is open after the next
pub tick_open : (unit : ℕ) (ls : List (Event Lookups)) → closed_of (spin_link unit) ls ≡ None → silence ls ≡ 0 → closed_of (spin_link unit) (Ticked ∷ ls) ≡ None
tick_open unit ls open_is none = ap (λ (o : Option Closed). or_else o (closes (is_quiet ls) (silence ls))) open_is ∙ ap (closes (is_quiet ls)) none ∙ early (is_quiet ls)
  where
    closes : Bool → ℕ → Option Closed
    closes b k = cond (nat_le 5 (cond b (k + 1) 0)) (Some (closed_at Silent (counted (length (fed_of ls))))) None

    early : (b : Bool) → closes b 0 ≡ None
    early true = refl
    early false = refl

module _ (unit : ℕ) (limits : Limits) (s : State) (t : Spent) (A : List ℕ) (E : List Entry) where
  pumped_at : (n : ℕ) (c : SpinConnection) → pumped unit limits n (at s t A (Some c) E) ≡ at s t A (Some (pumped_times unit limits n c)) E
  pumped_at zero c = refl
  pumped_at (suc n) c = ap (venue_has unit limits (SpinPumped the_session)) (pumped_at n c)

  module _ (c : SpinConnection) where
    abbrev S : State
    S = at s t A (Some c) E

    -- ---- Carrying all
    -- where these bytes wait on the way up, and these on the way down
    abbrev with_waiting : List ℕ → List ℕ → SpinConnection
    with_waiting up down = record { up = up; down = down; server = c.server; link = c.link }

    -- what the connection is once all that waits was carried up
    abbrev fed_first : List ℕ → SpinConnection
    fed_first w = at_server unit limits (Fed w (replicate (length (new_items c.server w)) (record { messages = s.venue.messages; advertised = last_ten A }))) (record { up = []; down = c.down; server = c.server; link = c.link })

    abbrev pub fed_up : List ℕ → SpinConnection
    fed_up w = sent_whole unit limits (at_server unit limits (Fed w (replicate (length (new_items c.server w)) (record { messages = s.venue.messages; advertised = last_ten A }))) (record { up = []; down = c.down; server = c.server; link = c.link }))

    pub up_step : next_state unit limits (verbs.Up SpinSession None) (at s t A (Some c) E) ≡ at s t A (Some (fed_up c.up)) E
    up_step =
        let n : ℕ = length c.up in
        ap (λ (b : Bool). record (cond b (done (outcome.TooFew n n) S) (done (outcome.Carried n) (server_fed unit limits SpinSession (take n c.up) (up_taken SpinSession n S)))).state { begun = true }) (carried_all c.up)
        ∙ ap (λ (w : List ℕ). record (server_fed unit limits SpinSession w (up_taken SpinSession n S)) { begun = true }) (all_of c.up)
        ∙ ap (λ (w : List ℕ). record (server_fed unit limits SpinSession c.up (at s t A (Some (with_waiting w c.down)) E)) { begun = true }) (none_of c.up)
        ∙ ap (λ (x : State). record x { begun = true }) (pumped_at (pumps_at unit (fed_first c.up).server) (fed_first c.up))

    -- and down, where it then has closed or not
    abbrev heard_state : List ℕ → List ℕ → Bool → State
    heard_state piece left shut =
        let F : List Entry = heard_all (link_tells (spin_link unit) c.link piece) E in
        let x : SessionState = cond shut (record { heard = SpinDown ∷ F; link = None }) (record { heard = F; link = Some (Fed piece NoLookup ∷ c.link) }) in
        record (settled unit limits SpinSession (record (at s t A (Some (record { up = c.up; down = left; server = c.server; link = c.link })) E) {
          client = record { heard = x.heard; grp = None; spin = x.link };
          spin_up = kept_for x.link (c.up ++ []);
        })) { begun = true }

    abbrev pub fed_down : List ℕ → SpinConnection
    fed_down w = record { up = c.up; down = []; server = c.server; link = Fed w NoLookup ∷ c.link }

    pub down_step : (items : List Item) → Hears unit c.link c.down items → next_state unit limits (verbs.Down SpinSession None) (at s t A (Some c) E) ≡ at s t A (Some (fed_down c.down)) (heard_all items E)
    down_step items h =
        let n : ℕ = length c.down in
        let fed : List ℕ → State = λ w. link_fed unit limits SpinSession w (venue_has unit limits (SpinPut the_session n) S) in
        ap (λ (b : Bool). record (cond b (done (outcome.TooFew n n) S) (done (outcome.Carried n) (fed (take n c.down)))).state { begun = true }) (carried_all c.down)
        ∙ ap (λ (w : List ℕ). record (fed w) { begun = true }) (all_of c.down)
        ∙ ap (λ (o : Option Closed). heard_state c.down (drop n c.down) (is_some o)) h.after.open_is
        ∙ ap (λ (w : List ℕ). heard_state c.down w false) (none_of c.down)
        ∙ (λ i. at s t A (Some (record { up = append-nil c.up i; down = []; server = c.server; link = Fed c.down NoLookup ∷ c.link })) (heard_all (h.told i) E))

    -- ---- A tick
    abbrev cs : EndSetup
    cs = client_setup unit limits

    -- what the connection is then, where this is asked for
    abbrev pub both_ticked : Option Ask → SpinConnection
    both_ticked ask = record {
      up = c.up ++ (link_says (spin_link unit) Ticked c.link ++ asks_spin_server (client_setup unit limits) ask (Some (Ticked ∷ c.link)));
      down = c.down ++ spin_says (venue_setup unit limits) Ticked c.server;
      server = Ticked ∷ c.server;
      link = asked_link ask (Ticked ∷ c.link);
    }

    -- the client asks, once its links ticked
    tick_with : EndState → Option Ask → State
    tick_with both ask =
        let after : EndState = ask_sent cs ask (record both { heard = entry.Ticked ask ∷ both.heard }) in
        record (settled unit limits SpinSession (settled unit limits GrpSession (record S {
          venue = venue_step (venue_setup unit limits) Second S.venue;
          client = after;
          grp_up = kept_for after.grp ([] ++ (place_says gap_link Ticked None ++ asks_proxy cs ask both.grp));
          spin_up = kept_for after.spin (c.up ++ (place_says (spin_link unit) Ticked (Some c.link) ++ asks_spin_server cs ask both.spin));
        }))) { begun = true }

    abbrev ticked : EndState
    ticked = record { heard = E; grp = None; spin = Some (Ticked ∷ c.link) }

    both_is : closed_of (spin_link unit) (Ticked ∷ c.link) ≡ None → both_links_tick cs S.client ≡ ticked
    both_is open_is = ap (λ (o : Option Closed). with_spin (cond (is_some o) (record { heard = SpinDown ∷ E; link = None }) (record { heard = E; link = Some (Ticked ∷ c.link) })) S.client) open_is

    asked : (ask : Option Ask) → tick_with ticked ask ≡ at s (next_second t) A (Some (both_ticked ask)) (entry.Ticked ask ∷ E)
    unfolding tick_with
    asked None = refl
    asked (Some (asks.Gap first count)) = refl
    asked (Some (asks.Spin n)) = refl

    pub tick_step : (ask : Option Ask) → closed_of (spin_link unit) (Ticked ∷ c.link) ≡ None → ask_of limits.hold E ≡ ask
        → next_state unit limits verbs.Tick (at s t A (Some c) E) ≡ at s (next_second t) A (Some (both_ticked ask)) (entry.Ticked ask ∷ E)
    unfolding tick_with
    tick_step ask open_is is =
        ap (λ (both : EndState). tick_with both (ask_of limits.hold both.heard)) (both_is open_is)
        ∙ asked (ask_of limits.hold E)
        ∙ ap (λ (a : Option Ask). at s (next_second t) A (Some (both_ticked a)) (entry.Ticked a ∷ E)) is
