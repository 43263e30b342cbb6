-- What a stage's ends become.
use Rattle.std.proofs.Common.{◌≡◌, ℕ, ◌++◌, Bool, false, List, [], ◌∷◌, drop, map, reverse, refl, sym, ap, ◌∙◌, subst, append_assoc}
use Rattle.std.proofs.lemmas.List.{append-nil, reverse-append}
use Rattle.pitch_io.specs.declared.line.Line.{Line}
use Rattle.pitch_io.specs.declared.net.NetTaken.{NetTaken}
use Rattle.pitch_io.specs.declared.net.NetTaken.TheVariants.{Got}
use Rattle.pitch_io.specs.layers.Coming.{came}
use Rattle.pitch_text.specs.declared.verb.Session.{Session}
use Rattle.pitch_text.specs.declared.verb.Session.TheVariants.{Grp, Spin}
use Rattle.unit_packets.specs.Blocks.{Block}
use Rattle.client_end.specs.Came.{Came, EndState, Heard, end_after, end_step}
use Rattle.client_end.specs.Parts.{EndIs}
use Rattle.sending_end.specs.Stands.{HearsBlocks, OfSending, Passes, SendingStands, blocks_came}
use Rattle.sending_end.specs.Stands.{waiting}
use Rattle.sending_end.specs.Waiting.{of_unit, waits_for_proxy, waits_for_spin_server}
use Rattle.sending_end.specs.declared.end.SendingEnd.{SendingEnd}
use Rattle.sending_end.specs.declared.session.Session.{Session as LinkSession}
use Rattle.sending_end.specs.declared.session.Session.TheVariants.{Proxy, SpinServer as SpinLink}
use Rattle.venue_end.specs.Came.{VenueCame, VenueState, on_gap_line}
use Rattle.venue_end.specs.Sessions.{session_of}
use Rattle.world_model.specs.Ends.{at_client, default_limits, server_took, stands, the_session}
use Rattle.world_model.specs.State.{State, up_taken}
use Rattle.world_model.specs.Stands.{HasClient}
use Rattle.world_model.specs.Verbs.{client_has, hears, hears_block, pumps, sent_whole, venue_has}
use Rattle.world_model.proofs.Sessions.{pumped_is}
use Rattle.net_edge.specs.Acting.{server_answers, server_takes}
use Rattle.net_edge.specs.Due.{demo_unit}
use Rattle.net_edge.specs.declared.stage.Stage.{Stage}
use Rattle.net_edge.specs.layers.Ends.{Becomes, HandsOut, HasCome, Holds, Replays, demo_client, demo_venue}
use Rattle.net_edge.proofs.Taking.{pumped_replayed}

pub becomes_then : {V : Type 0} {is : V → VenueState → Type 0} {a b c : Stage V} {f g : State → State} → Becomes is a b f → Becomes is b c g → Becomes is a c (λ w. g (f w))
becomes_then {f = f} one two = record { holds = λ w h. two.holds (f w) (one.holds w h); ended = two.ended ∙ one.ended }

module _ {V : Type 0} (is : V → VenueState → Type 0) where
  pub becomes_none : (e : Stage V) → Becomes is e e (λ w. w)
  becomes_none e = record { holds = λ w h. h; ended = refl }

  -- ---- What comes to an end
  -- the venue's end becomes another, and nothing else that a stage holds changes
  alone_becomes : (e : Stage V) (venue : V) (becomes : State → State) → ((w : State) → is e.venue w.venue → is venue (becomes w).venue) → ((w : State) → becomes w ≡ record w { venue = (becomes w).venue; replayed = (becomes w).replayed })
      → Becomes is e (record e { venue = venue }) becomes
  alone_becomes e venue becomes comes alone = record {
    holds = λ w h.
        let v : State = record w { venue = (becomes w).venue; replayed = (becomes w).replayed } in
        let client : HasClient demo_unit default_limits e.client v = record { unit_is = h.client.unit_is; end_is = h.client.end_is; grp_up = h.client.grp_up; spin_up = h.client.spin_up } in
        subst (Holds is (record e { venue = venue })) (sym (alone w)) (record { venue = comes w h.venue; client = client; came = h.came; came_is = h.came_is });
    ended = refl;
  }

  pub venue_becomes : (e : Stage V) (venue : V) (new : VenueCame) → HasCome is e.venue venue new → Becomes is e (record e { venue = venue }) (venue_has demo_unit default_limits new)
  venue_becomes e venue new comes = alone_becomes e venue (venue_has demo_unit default_limits new) (λ w. comes.comes w.venue) (λ w. refl)

  pub client_stands : (e : Stage V) (w : State) → (h : Holds is e w) → SendingStands demo_client e.client h.came
  client_stands e w h = record { unit_is = h.client.unit_is; end_is = subst (EndIs demo_client e.client.end) h.came_is h.client.end_is }

  pub client_becomes : (e : Stage V) (client : SendingEnd) (came : Came) → Passes e.client client came → Becomes is e (record e { client = client }) (client_has demo_unit default_limits came)
  client_becomes e client came passes = record {
    holds = λ w h.
        let then = passes demo_client h.came (client_stands e w h) in
        let at : EndState = end_after demo_client h.came in
        record {
          venue = h.venue;
          client = record {
            unit_is = then.stands.unit_is;
            end_is = subst (λ (now : EndState). EndIs demo_client client.end (end_step demo_client came now)) (sym h.came_is) then.stands.end_is;
            grp_up = subst (λ (now : EndState). client.grp_said.items ≡ waits_for_proxy demo_client came now w.grp_up) (sym h.came_is) (then.proxy ∙ ap (waits_for_proxy demo_client came at) h.client.grp_up);
            spin_up = subst (λ (now : EndState). client.spin_said.items ≡ waits_for_spin_server demo_client came now w.spin_up) (sym h.came_is) (then.spin_server ∙ ap (waits_for_spin_server demo_client came at) h.client.spin_up);
          };
          came = came ∷ h.came;
          came_is = ap (end_step demo_client came) h.came_is;
        };
    ended = refl;
  }

  -- ---- Blocks
  module _ (line : Line) where
    heard_came : (blocks : List Block) (w : State) (came : List Came) → w.client ≡ end_after demo_client came → (hears demo_unit default_limits line blocks w).client ≡ end_after demo_client (blocks_came blocks came)
    heard_came [] w came same = same
    heard_came (block ∷ blocks) w came same =
        heard_came blocks (hears_block demo_unit default_limits line block w) (Heard block ∷ came) (ap (end_step demo_client (Heard block)) same)
        ∙ ap (end_after demo_client) (sym (came_more block blocks came))
      where
        came_more : (block : Block) (blocks : List Block) (came : List Came) → blocks_came (block ∷ blocks) came ≡ blocks_came blocks (Heard block ∷ came)
        came_more block blocks came =
            let all : List Came = map (λ (b : Block). Heard b) blocks in
            ap (λ (l : List Came). l ++ came) (reverse-append (Heard block ∷ []) all) ∙ append_assoc (reverse all) (Heard block ∷ []) came

    -- nothing but the client and its notes changes
    heard_alone : (blocks : List Block) (w : State) → hears demo_unit default_limits line blocks w ≡ record w { client = (hears demo_unit default_limits line blocks w).client; notes = (hears demo_unit default_limits line blocks w).notes }
    heard_alone [] w = refl
    heard_alone (block ∷ blocks) w = heard_alone blocks (hears_block demo_unit default_limits line block w)

    pub hears_becomes : (e : Stage V) (client : SendingEnd) (blocks : List Block) → HearsBlocks e.client client blocks → Becomes is e (record e { client = client }) (hears demo_unit default_limits line (of_unit demo_unit blocks))
    hears_becomes e client blocks heard = record {
      holds = λ w h.
          let ours : List Block = of_unit demo_unit blocks in
          let then : SendingStands demo_client client (blocks_came ours h.came) =
          subst (λ (unit : ℕ). SendingStands demo_client client (blocks_came (of_unit unit blocks) h.came)) h.client.unit_is (heard.stands demo_client h.came (client_stands e w h)) in
          let came_is = heard_came ours w h.came h.came_is in
          let after : State = hears demo_unit default_limits line ours w in
          let has : HasClient demo_unit default_limits client (record w { client = after.client; notes = after.notes }) = record {
            unit_is = then.unit_is;
            end_is = subst (EndIs demo_client client.end) (sym came_is) then.end_is;
            grp_up = heard.waits.proxy ∙ h.client.grp_up;
            spin_up = heard.waits.spin_server ∙ h.client.spin_up;
          } in
          subst (Holds is (record e { client = client })) (sym (heard_alone ours w)) (record { venue = h.venue; client = has; came = blocks_came ours h.came; came_is = came_is });
      ended = refl;
    }

  -- ---- What comes to a server
  module _ (session : Session) (bytes : List ℕ) (count : ℕ) where
    pub fed_becomes : (e : Stage V) (venue : V) → HasCome is e.venue venue (server_took session bytes) → Becomes is e (record e { venue = venue }) (server_answers session bytes (Got count))
    fed_becomes e venue comes = by session comes
      where
        by : (x : Session) → HasCome is e.venue venue (server_took x bytes) → Becomes is e (record e { venue = venue }) (server_answers x bytes (Got count))
        by Grp comes = alone_becomes e venue (server_answers Grp bytes (Got count)) (λ w. comes.comes w.venue) (λ w. refl)
        by Spin comes = alone_becomes e venue (server_answers Spin bytes (Got count)) (λ w. comes.comes w.venue) (λ w. refl)

  -- a running image is sent to its end
  whole_becomes : (e : Stage V) (venue : V) → ((w : State) → is e.venue w.venue → is venue (sent_whole demo_unit default_limits w).venue) → Becomes is e (record e { venue = venue }) (sent_whole demo_unit default_limits)
  whole_becomes e venue whole = alone_becomes e venue (sent_whole demo_unit default_limits) whole (λ w.
      let all : State = sent_whole demo_unit default_limits w in
      let n : ℕ = pumps demo_venue (session_of the_session w.venue.spins) in
      pumped_is demo_unit default_limits n w ∙ ap (λ (lines : List (List ℕ)). record w { venue = all.venue; replayed = lines }) (sym (pumped_replayed n w)))

  -- nothing came
  pub nothing_becomes : (session : Session) (into : List ℕ) (taken : NetTaken) (e : Stage V) → ((count : ℕ) → taken ≡ Got count → ⊥) → Becomes is e e (server_answers session (came taken into) taken)
  nothing_becomes session into (Got count) e none = absurd (none count refl)
  nothing_becomes Grp into taken e none = becomes_none e
  nothing_becomes Spin into taken e none = becomes_none e

  -- where the turn's calls are over
  pub serves_whole : (session : Session) (bytes : List ℕ) (taken : NetTaken) (goes_on : Bool) (old mid : Stage V) (venue : V) → session ≡ Spin → goes_on ≡ false → Becomes is old mid (server_answers session bytes taken)
      → ((w : State) → is mid.venue w.venue → is venue (sent_whole demo_unit default_limits w).venue) → Becomes is old (record mid { venue = venue }) (server_takes session bytes taken goes_on)
  serves_whole session bytes taken goes_on old mid venue spin over first whole =
      rw (spin, over) (becomes_then (rw spin at first) (whole_becomes mid venue whole))

  -- what is sent to a server, some of it put
  pub taken_becomes : (session : Session) (count : ℕ) (e : Stage V) (client : SendingEnd) → waiting (at_client session) client ≡ drop count (waiting (at_client session) e.client)
      → ((other : LinkSession) → (other ≡ at_client session → ⊥) → waiting other client ≡ waiting other e.client) → OfSending e.client (λ c before. SendingStands c client before)
      → Becomes is e (record e { client = client }) (up_taken session count)
  taken_becomes session count e client left others stands = record { holds = λ w h. by session w h left others; ended = refl }
    where
      by : (x : Session) (w : State) → (h : Holds is e w) → waiting (at_client x) client ≡ drop count (waiting (at_client x) e.client) → ((other : LinkSession) → (other ≡ at_client x → ⊥) → waiting other client ≡ waiting other e.client)
          → Holds is (record e { client = client }) (up_taken x count w)
      by Grp w h left others = let then = stands demo_client h.came (client_stands e w h) in record {
        venue = h.venue;
        client = record { unit_is = then.unit_is; end_is = rw h.came_is then.end_is; grp_up = left ∙ ap (drop count) h.client.grp_up; spin_up = others SpinLink (λ e. cc) ∙ h.client.spin_up };
        came = h.came;
        came_is = h.came_is;
      }
      by Spin w h left others = let then = stands demo_client h.came (client_stands e w h) in record {
        venue = h.venue;
        client = record { unit_is = then.unit_is; end_is = rw h.came_is then.end_is; grp_up = others Proxy (λ e. cc) ∙ h.client.grp_up; spin_up = left ∙ ap (drop count) h.client.spin_up };
        came = h.came;
        came_is = h.came_is;
      }

-- ---- What the proxy has for the gap line by that
pub fed_replays : (session : Session) (bytes : List ℕ) (count : ℕ) (w : State) (lines lines' : List (List ℕ)) → HandsOut w.venue lines lines' (on_gap_line demo_venue (server_took session bytes) w.venue) → Replays w (server_answers session bytes (Got count) w) lines lines'
fed_replays Grp bytes count w lines lines' hands = record { more = on_gap_line demo_venue (server_took Grp bytes) w.venue; hands = hands; replayed = refl }
fed_replays Spin bytes count w lines lines' hands = record { more = []; hands = hands; replayed = sym (append-nil w.replayed) }

pub none_replays : (w v : State) (lines : List (List ℕ)) → v.replayed ≡ w.replayed → Replays w v lines lines
none_replays w v lines same = record { more = []; hands = record { lined = sym (append-nil lines); pieces = tt }; replayed = same ∙ sym (append-nil w.replayed) }

pub nothing_replays : (session : Session) (into : List ℕ) (taken : NetTaken) (w : State) (lines : List (List ℕ)) → ((count : ℕ) → taken ≡ Got count → ⊥) → Replays w (server_answers session (came taken into) taken w) lines lines
nothing_replays session into (Got count) w lines none = absurd (none count refl)
nothing_replays Grp into taken w lines none = none_replays w w lines refl
nothing_replays Spin into taken w lines none = none_replays w w lines refl

pub serve_replays : (session : Session) (bytes : List ℕ) (taken : NetTaken) (goes_on : Bool) (w : State) (lines lines' : List (List ℕ)) → session ≡ Spin → goes_on ≡ false → Replays w (server_answers session bytes taken w) lines lines'
    → Replays w (server_takes session bytes taken goes_on w) lines lines'
serve_replays session bytes taken goes_on w lines lines' spin over first = rw (spin, over) (whole (rw spin at first))
  where
    whole : Replays w (server_answers Spin bytes taken w) lines lines' → Replays w (server_takes Spin bytes taken false w) lines lines'
    whole is = let v : State = server_answers Spin bytes taken w in record { more = is.more; hands = is.hands; replayed = pumped_replayed (pumps demo_venue (session_of the_session v.venue.spins)) v ∙ is.replayed }
