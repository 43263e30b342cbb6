-- The verbs of a round with the proxy, one after another, where no connection with a Spin Server
-- stands.
use Rattle.std.proofs.Common.{◌≡◌, ℕ, ◌++◌, Bool, true, cond, List, [], ◌∷◌, length, take, drop, refl, ap, ◌∙◌, max, Option, Some, None, is_some}
use Rattle.std.specs.List.{flat_map}
use Rattle.pitch_io.specs.declared.line.Line.{Line}
use Rattle.pitch_io.specs.declared.line.Line.TheVariants.{Gap}
use Rattle.pitch_text.specs.declared.verb.Session.TheVariants.{Grp, Spin}
use Rattle.pitch_text.specs.declared.verb.Verb.TheVariants as verbs
use Rattle.pitch_messages.specs.declared.session.SessionMessage.TheVariants.{GapRequest}
use Rattle.unit_packets.specs.Blocks.{Block}
use Rattle.unit_packets.specs.Cutting.{blocks_of}
use Rattle.heard_items.specs.declared.item.Item.{Item}
use Rattle.heard_items.specs.Datagrams.{heard_blocks}
use Rattle.pitch_model.specs.declared.ask.Ask.{Ask}
use Rattle.pitch_model.specs.declared.ask.Ask.TheVariants as asks
use Rattle.pitch_model.specs.Asking.{ask_of}
use Rattle.pitch_model.specs.History.{Entry}
use Rattle.pitch_model.specs.History as entry
use Rattle.line_arbiter.specs.Noted.{Note}
use Rattle.session_ends.specs.Answering.{Answer}
use Rattle.session_ends.specs.declared.closed.Closed.{Closed}
use Rattle.session_ends.specs.Closing.{closed_of}
use Rattle.session_ends.specs.Events.{Event, Fed, Ticked, Asked}
use Rattle.grp_session.specs.Budget.{Spent, next_second}
use Rattle.grp_session.specs.Serving.{Source, proxy_answer}
use Rattle.client_links.specs.Linking.{Lookups, NoLookup, link_tells}
use Rattle.heard_items.specs.Heard.{heard_all}
use Rattle.client_end.specs.Came.{EndSetup, EndState, GrpTook, with_grp, asks_proxy, asks_spin_server, ask_sent, both_links_tick, end_step, second_ask, spin_link_ticks}
use Rattle.client_end.specs.Links.{gap_link, link_says}
use Rattle.client_end.specs.Sessions.{SessionState, settled_at}
use Rattle.sending_end.specs.Waiting.{kept_for}
use Rattle.venue_end.specs.Came.{ProxyPut, proxy_source}
use Rattle.venue_end.specs.Came as venue
use Rattle.venue_end.specs.Servers.{proxy_says, proxy_setup}
use Rattle.world_model.specs.Ends.{client_setup, the_session, venue_setup}
use Rattle.world_model.specs.State.{State, up_taken}
use Rattle.world_model.specs.Verbs.{Done, carried, done, hears, hears_block, next_state, server_fed, settled, link_fed, up_to, venue_has}
use Rattle.world_model.specs.declared.limits.Limits.{Limits}
use Rattle.world_model.specs.declared.outcome.Outcome.TheVariants as outcome
use Rattle.world_laws.proofs.Joined.{all_of, carried_all, none_of, one_session}
use Rattle.world_laws.proofs.LinkPieces.{TellsOf}

-- a state in which no connection stands
abbrev pub apart : State → State
apart s = record s {
  begun = true;
  venue = record s.venue { proxies = []; spins = [] };
  client = record { heard = s.client.heard; grp = None; spin = None };
  grp_up = [];
  spin_up = [];
}

-- one in which one with the proxy stands alone: what waits to go up and down, and what happened at
-- its server and at its link
abbrev pub at : List ℕ → List ℕ → List (Event Source) → List (Event Lookups) → State → State
at up down server link s = record s {
  begun = true;
  venue = record s.venue { proxies = one_session server down; spins = [] };
  client = record { heard = s.client.heard; grp = Some link; spin = None };
  grp_up = up;
  spin_up = [];
}

-- ---- What becomes of a state
-- the client has heard this
abbrev pub with_heard : List Entry → State → State
with_heard E s = record s { client = record s.client { heard = E } }

-- a second passed, and the client asked
abbrev pub asked_at : Option Ask → State → State
asked_at ask s = with_heard (entry.Ticked ask ∷ s.client.heard) (record s { venue = record s.venue { spent = next_second s.venue.spent } })

-- the proxy answered
abbrev pub answered_by : Answer Spent → State → State
answered_by a s = record s { venue = record s.venue { spent = a.knows }; replayed = s.replayed ++ a.lines }

-- the datagrams of the gap line that the client lacked came, and were noted
abbrev pub rest_came : List Note → State → State
rest_came notes s = record (with_heard (heard_blocks (flat_map blocks_of (drop s.passed.gap s.replayed)) s.client.heard) s) { notes = notes; passed = record s.passed { gap = max (length s.replayed) s.passed.gap } }

-- ---- The lines
-- blocks are heard and noted, and that is all
pub hears_are : (unit : ℕ) (limits : Limits) (line : Line) (blocks : List Block) (s : State)
    → hears unit limits line blocks s ≡ record (with_heard (heard_blocks blocks s.client.heard) s) { notes = (hears unit limits line blocks s).notes }
hears_are unit limits line [] s = refl
hears_are unit limits line (block ∷ blocks) s = hears_are unit limits line blocks (hears_block unit limits line block s)

-- the notes once the rest of the gap line came
abbrev pub rest_notes : ℕ → Limits → State → List Note
rest_notes unit limits s = (hears unit limits Gap (flat_map blocks_of (drop s.passed.gap s.replayed)) s).notes

pub rest_step : (unit : ℕ) (limits : Limits) (s : State) → next_state unit limits (verbs.Rest Gap) s ≡ record (rest_came (rest_notes unit limits s) s) { begun = true }
rest_step unit limits s = ap (λ (y : State). record (up_to Gap (length s.replayed) y) { begun = true }) (hears_are unit limits Gap (flat_map blocks_of (drop s.passed.gap s.replayed)) s)

-- ---- A link that stays open
settled_open : (E : List Entry) (link : List (Event Lookups)) → closed_of gap_link link ≡ None → settled_at gap_link entry.GrpDown E (Some link) ≡ record { heard = E; link = Some link }
settled_open E link open_is =
    let cut : SessionState = record { heard = entry.GrpDown ∷ E; link = None } in
    let still : SessionState = record { heard = E; link = Some link } in
    ap (λ (o : Option Closed). cond (is_some o) cut still) open_is

-- all that waits is carried
carried_whole : (waiting : List ℕ) (after : ℕ → State) (s : State) → carried true None waiting after s ≡ done (outcome.Carried (length waiting)) (after (length waiting))
carried_whole waiting after s =
    let few : Done = done (outcome.TooFew (length waiting) (length waiting)) s in
    ap (λ (b : Bool). cond b few (done (outcome.Carried (length waiting)) (after (length waiting)))) (carried_all waiting)

-- ---- The verbs
module _ (unit : ℕ) (limits : Limits) (server : List (Event Source)) (link : List (Event Lookups)) (s : State) where
  abbrev setup : EndSetup
  setup = client_setup unit limits

  -- all is carried up: what the proxy sees, and what it answers
  abbrev source : List ℕ → Source
  source w = proxy_source (venue_setup unit limits) s.venue server w

  abbrev answer : List ℕ → Answer Spent
  answer w = proxy_answer (proxy_setup (venue_setup unit limits)) server w (proxy_source (venue_setup unit limits) s.venue server w)

  pub up_step : (up down : List ℕ) → next_state unit limits (verbs.Up Grp None) (at up down server link s) ≡ at [] (down ++ (answer up).reply) (Fed up (source up) ∷ server) link (answered_by (answer up) s)
  up_step up down =
      ap (λ (d : Done). record d.state { begun = true }) (carried_whole up (λ n. server_fed unit limits Grp (take n up) (up_taken Grp n (at up down server link s))) (at up down server link s))
      ∙ (λ i. record (server_fed unit limits Grp (all_of up i) (at (none_of up i) down server link s)) { begun = true })

  -- all is carried down
  took : (items : List Item) (bytes : List ℕ) → TellsOf gap_link link bytes items
      → end_step (client_setup unit limits) (GrpTook bytes) (at [] [] server link s).client ≡ record { heard = heard_all items s.client.heard; grp = Some (Fed bytes NoLookup ∷ link); spin = None }
  took items bytes h =
      let after : List Item → EndState = λ l. record { heard = heard_all l s.client.heard; grp = Some (Fed bytes NoLookup ∷ link); spin = None } in
      ap (λ (session : SessionState). with_grp session (at [] [] server link s).client) (settled_open (heard_all (link_tells gap_link link bytes) s.client.heard) (Fed bytes NoLookup ∷ link) h.after.open_is)
      ∙ ap after h.told

  pub down_step : (down : List ℕ) (items : List Item) → TellsOf gap_link link down items → next_state unit limits (verbs.Down Grp None) (at [] down server link s) ≡ at [] [] server (Fed down NoLookup ∷ link) (with_heard (heard_all items s.client.heard) s)
  down_step down items h =
      let put : ℕ → State = λ n. venue_has unit limits (ProxyPut the_session n) (at [] down server link s) in
      let after : EndState → State = λ e. settled unit limits Grp (record (put (length down)) { client = e; grp_up = kept_for e.grp []; spin_up = kept_for e.spin [] }) in
      ap (λ (d : Done). record d.state { begun = true }) (carried_whole down (λ n. link_fed unit limits Grp (take n down) (put n)) (at [] down server link s))
      ∙ ap (λ (w : List ℕ). record (link_fed unit limits Grp w (put (length down))) { begun = true }) (all_of down)
      ∙ ap (λ (e : EndState). record (after e) { begun = true }) (took items down h)
      ∙ ap (λ (left : List ℕ). at [] left server (Fed down NoLookup ∷ link) (with_heard (heard_all items s.client.heard) s)) (none_of down)

  -- a second passes, and the client asks the proxy
  pub tick_step : (first count : ℕ) → closed_of gap_link (Ticked ∷ link) ≡ None → ask_of limits.hold s.client.heard ≡ Some (asks.Gap first count)
      → next_state unit limits verbs.Tick (at [] [] server link s)
      ≡ at (link_says gap_link Ticked link ++ link_says gap_link (Asked (GapRequest unit first count)) (Ticked ∷ link)) (proxy_says (venue_setup unit limits) Ticked server) (Ticked ∷ server) (Asked (GapRequest unit first count) ∷ Ticked ∷ link)
      (asked_at (Some (asks.Gap first count)) s)
  tick_step first count open_is is =
      let ask_sent_at : EndState → Option Ask → EndState = λ e ask. ask_sent setup ask (record e { heard = entry.Ticked ask ∷ e.heard }) in
      let after : EndState → Option Ask → State = λ e ask. settled unit limits Spin (settled unit limits Grp (record (venue_has unit limits venue.Second (at [] [] server link s)) {
        client = ask_sent_at e ask;
        grp_up = kept_for (ask_sent_at e ask).grp (link_says gap_link Ticked link ++ asks_proxy setup ask e.grp);
        spin_up = kept_for (ask_sent_at e ask).spin (asks_spin_server setup ask e.spin);
      })) in
      let now : EndState = (at [] [] server link s).client in
      let ticks : both_links_tick setup now ≡ record { heard = s.client.heard; grp = Some (Ticked ∷ link); spin = None } = ap (λ (session : SessionState). spin_link_ticks setup (with_grp session now)) (settled_open s.client.heard (Ticked ∷ link) open_is) in
      let asked : second_ask setup now ≡ Some (asks.Gap first count) = ap (λ (e : EndState). ask_of limits.hold e.heard) ticks ∙ is in
      (λ i. record (after (ticks i) (asked i)) { begun = true })
