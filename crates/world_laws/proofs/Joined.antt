-- Each server has one session at most, and has it exactly where the client's link stands; for a link
-- that does not stand nothing waits on the way up. What a verb of a connection then leaves.
use Rattle.std.proofs.Common.{◌≡◌, ℕ, zero, suc, Bool, true, false, cond, List, [], ◌∷◌, ◌++◌, length, take, drop, refl, sym, ap, ◌∙◌, subst, arith, Option, Some, None, is_some, nat_lt, unwrap_or}
use Rattle.std.specs.List.{flat_map}
use Rattle.std.proofs.lemmas.Bool.{le-ltb}
use Rattle.std.proofs.lemmas.List.{drop_all, take_all}
use Rattle.unit_packets.specs.Blocks.{Block}
use Rattle.unit_packets.specs.Cutting.{blocks_of}
use Rattle.pitch_io.specs.declared.line.Line.{Line}
use Rattle.pitch_text.specs.declared.command.Command.{Command}
use Rattle.pitch_text.specs.declared.verb.Session.{Session as SessionKind}
use Rattle.pitch_text.specs.declared.verb.Session.TheVariants.{Grp, Spin}
use Rattle.pitch_text.specs.declared.verb.Verb.{Verb}
use Rattle.pitch_text.specs.declared.verb.Verb.TheVariants as verbs
use Rattle.pitch_model.specs.declared.ask.Ask.{Ask}
use Rattle.pitch_model.specs.declared.ask.Ask.TheVariants as asks
use Rattle.pitch_model.specs.Asking.{ask_of}
use Rattle.pitch_model.specs.History.{Entry, GrpDown, SpinDown}
use Rattle.pitch_model.specs.History as entry
use Rattle.venue_core.specs.Refusals.{refusal}
use Rattle.venue_core.specs.declared.error.VenueError.{VenueError}
use Rattle.session_ends.specs.Events.{Event, Fed, Ticked, Pumped, Told}
use Rattle.grp_session.specs.Serving.{Source}
use Rattle.spin_server.specs.Served.{Served}
use Rattle.client_links.specs.Linking.{Lookups}
use Rattle.client_end.specs.Came.{EndSetup, EndState, GrpTook, ask_sent, both_links_tick, end_step}
use Rattle.client_end.specs.Came as client
use Rattle.client_end.specs.Links.{gap_link, spin_link}
use Rattle.client_end.specs.Sessions.{fed_at, happened, settled_at}
use Rattle.sending_end.specs.Waiting.{kept_for}
use Rattle.venue_end.specs.Came.{Commanded, ProxyPut, ProxyCut, SpinTook, SpinPut, SpinCut, commanded_on, proxy_fed, proxy_source, spin_fed, spin_views}
use Rattle.venue_end.specs.Servers.{proxy_says, spin_says}
use Rattle.venue_end.specs.Sessions.{Session, session_of, at_session, without, with_new, happens_at, happens_at_all, puts}
use Rattle.venue_end.specs.declared.setup.VenueSetup.{VenueSetup}
use Rattle.world_model.specs.Ends.{venue_setup, client_setup, the_session, stands, server_waits}
use Rattle.world_model.specs.State.{State, up_waits, up_taken, datagrams_on, passed_on}
use Rattle.world_model.specs.Verbs.{Done, done, does, next_state, state_of, venue_has, client_has, hears, hears_block, numbered, delivered_on, opened, ends, settled, carried, pumped, pumps, server_fed, link_fed, seconds}
use Rattle.world_model.specs.declared.limits.Limits.{Limits}
use Rattle.world_model.specs.declared.outcome.Outcome.TheVariants as outcome

-- what happened at a link, where it stands
abbrev pub Link : Type 0
Link = Option (List (Event Lookups))

-- ---- Carrying all
pub carried_all : (w : List ℕ) → nat_lt (length w) (length w) ≡ false
carried_all w = le-ltb (length w) (length w) (omega arith)

pub all_of : (w : List ℕ) → take (length w) w ≡ w
all_of w = take_all (length w) w (omega arith)

pub none_of : (w : List ℕ) → drop (length w) w ≡ []
none_of w = drop_all (length w) w (omega arith)

-- what a verb does where this is so, and where it is not
pub either : (P : State → Type 0) (b : Bool) (one other : Done) → P one.state → P other.state → P (cond b one other).state
either P true one other p q = p
either P false one other p q = q

-- what it carries, or does not
pub carries : (P : State → Type 0) (standing : Bool) (bytes : Option ℕ) (waiting : List ℕ) (after : ℕ → State) (s : State) → P s → ((n : ℕ) → P (after n)) → P (carried standing bytes waiting after s).state
carries P false bytes waiting after s p a = p
carries P true bytes waiting after s p a =
    let n : ℕ = unwrap_or bytes (length waiting) in
    either P (nat_lt (length waiting) n) (done (outcome.TooFew n (length waiting)) s) (done (outcome.Carried n) (after n)) p (a n)

-- ---- One session
module _ {X : Type 0} where
  -- one session alone, at whose server this happened and for which this waits
  abbrev pub one_session : List (Event X) → List ℕ → List (Session X)
  one_session events waiting = record { id = the_session; happened = events; waiting = waiting } ∷ []

  abbrev pub IsOne : List (Session X) → Type 0
  IsOne sessions = (events : List (Event X)) × (waiting : List ℕ) × (sessions ≡ one_session events waiting)

  -- it is there exactly where a link stands
  abbrev pub Matches : List (Session X) → Link → Type 0
  Matches sessions None = sessions ≡ []
  Matches sessions (Some events) = IsOne sessions

  -- it is there where a link stands; where none does there is no other
  abbrev pub Covers : List (Session X) → Link → Type 0
  Covers sessions None = without the_session sessions ≡ []
  Covers sessions (Some events) = IsOne sessions

  -- what becomes of none, and of one
  matches_on : (f : List (Session X) → List (Session X)) → f [] ≡ [] → ((events : List (Event X)) (waiting : List ℕ) → IsOne (f (one_session events waiting))) → (sessions : List (Session X)) (link : Link) → Matches sessions link → Matches (f sessions) link
  matches_on f none one sessions None is = ap f is ∙ none
  matches_on f none one sessions (Some events) (es, w, is) = let after = one es w in (after.0, after.1, ap f is ∙ after.2)

  covered : (sessions : List (Session X)) (old new : Link) → Matches sessions old → (old ≡ None → new ≡ None) → Covers sessions new
  covered sessions None new is stays = subst (Covers sessions) (sym (stays refl)) (ap (without the_session) is)
  covered sessions (Some events) None (es, w, is) stays = ap (without the_session) is
  covered sessions (Some events) (Some more) is stays = is

-- where a link does not stand, nothing waits for its server
abbrev pub NoneWaits : Link → List ℕ → Type 0
NoneWaits None up = up ≡ []
NoneWaits (Some events) up = Unit {0}

kept_none : (link : Link) (bytes : List ℕ) → NoneWaits link (kept_for link bytes)
kept_none None bytes = refl
kept_none (Some events) bytes = tt

taken_none : (n : ℕ) (link : Link) (up : List ℕ) → NoneWaits link up → NoneWaits link (drop n up)
taken_none n None up is = ap (drop n) is ∙ drop_all n [] (omega arith)
taken_none n (Some events) up is = tt

pub record Pair {X : Type 0} (sessions : List (Session X)) (link : Link) (up : List ℕ) : Type 0 where
  pub session : Matches sessions link
  pub none : NoneWaits link up

record Loose {X : Type 0} (sessions : List (Session X)) (link : Link) (up : List ℕ) : Type 0 where
  session : Covers sessions link
  none : NoneWaits link up

-- ---- Both sessions
pub record Pairs (proxies : List (Session Source)) (g : Link) (grp_up : List ℕ) (spins : List (Session (List Served))) (k : Link) (spin_up : List ℕ) : Type 0 where
  pub grp : Pair proxies g grp_up
  pub spin : Pair spins k spin_up

abbrev pub Joined : State → Type 0
Joined s = Pairs s.venue.proxies s.client.grp s.grp_up s.venue.spins s.client.spin s.spin_up

-- ---- A link that does not stand stays so
second_grp : (c : EndSetup) (now : EndState) → now.grp ≡ None → (end_step c client.Second now).grp ≡ None
second_grp c now none = by (ask_of c.hold (both_links_tick c now).heard)
  where
    ticked : (both_links_tick c now).grp ≡ None
    ticked = ap (λ (o : Link). (settled_at gap_link GrpDown now.heard (happened Ticked o)).link) none

    by : (a : Option Ask) → (ask_sent c a (record (both_links_tick c now) { heard = entry.Ticked a ∷ (both_links_tick c now).heard })).grp ≡ None
    by None = ticked
    by (Some (asks.Gap first count)) = ap (happened _) ticked
    by (Some (asks.Spin sequence)) = ticked

pub second_spin : (c : EndSetup) (now : EndState) → now.spin ≡ None → (end_step c client.Second now).spin ≡ None
second_spin c now none = by (ask_of c.hold (both_links_tick c now).heard)
  where
    grp_heard : List Entry
    grp_heard = (settled_at gap_link GrpDown now.heard (happened Ticked now.grp)).heard

    ticked : (both_links_tick c now).spin ≡ None
    ticked = ap (λ (o : Link). (settled_at (spin_link c.unit) SpinDown grp_heard (happened Ticked o)).link) none

    by : (a : Option Ask) → (ask_sent c a (record (both_links_tick c now) { heard = entry.Ticked a ∷ (both_links_tick c now).heard })).spin ≡ None
    by None = ticked
    by (Some (asks.Gap first count)) = ticked
    by (Some (asks.Spin sequence)) = ap (happened _) ticked

-- ---- Verb by verb
module _ (unit : ℕ) (limits : Limits) where
  abbrev vs : VenueSetup
  vs = venue_setup unit limits

  abbrev cs : EndSetup
  cs = client_setup unit limits

  abbrev OnGrp : (List (Session Source) → Link → List ℕ → Type 0) → State → Type 0
  OnGrp P s = P s.venue.proxies s.client.grp s.grp_up

  abbrev OnSpin : (List (Session (List Served)) → Link → List ℕ → Type 0) → State → Type 0
  OnSpin P s = P s.venue.spins s.client.spin s.spin_up

  -- a server hears that its link does not stand any more
  settle_grp : (S : List (Session (List Served)) → Link → List ℕ → Type 0) (x : State) → OnGrp Loose x → OnSpin S x → OnGrp Pair (settled unit limits Grp x) × OnSpin S (settled unit limits Grp x)
  settle_grp S x loose rest = by x.client.grp refl loose
    where
      by : (o : Link) → x.client.grp ≡ o → Loose x.venue.proxies o x.grp_up → OnGrp Pair (cond (is_some o) x (venue_has unit limits (ProxyCut the_session) x)) × OnSpin S (cond (is_some o) x (venue_has unit limits (ProxyCut the_session) x))
      by None is l = (subst (λ (g : Link). Pair (without the_session x.venue.proxies) g x.grp_up) (sym is) (record { session = l.session; none = l.none }), rest)
      by (Some events) is l = (subst (λ (g : Link). Pair x.venue.proxies g x.grp_up) (sym is) (record { session = l.session; none = l.none }), rest)

  settle_spin : (x : State) → OnGrp Pair x → OnSpin Loose x → Joined (settled unit limits Spin x)
  settle_spin x rest loose = by x.client.spin refl loose
    where
      by : (o : Link) → x.client.spin ≡ o → Loose x.venue.spins o x.spin_up → Joined (cond (is_some o) x (venue_has unit limits (SpinCut the_session) x))
      by None is l = record { grp = rest; spin = subst (λ (k : Link). Pair (without the_session x.venue.spins) k x.spin_up) (sym is) (record { session = l.session; none = l.none }) }
      by (Some events) is l = record { grp = rest; spin = subst (λ (k : Link). Pair x.venue.spins k x.spin_up) (sym is) (record { session = l.session; none = l.none }) }

  hears_joined : (line : Line) (blocks : List Block) (s : State) → Joined s → Joined (hears unit limits line blocks s)
  hears_joined line [] s j = j
  hears_joined line (block ∷ blocks) s j = hears_joined line blocks (hears_block unit limits line block s) j

  pumped_joined : (n : ℕ) (s : State) → Joined s → Joined (pumped unit limits n s)
  pumped_joined zero s j = j
  pumped_joined (suc n) s j =
      let x : State = pumped unit limits n s in
      let k : Joined x = pumped_joined n s j in
      record {
        grp = k.grp;
        spin = record {
          session = matches_on (at_session the_session (happens_at (spin_says vs) Pumped)) refl (λ es w. (Pumped ∷ es, w ++ spin_says vs Pumped es, refl)) x.venue.spins x.client.spin k.spin.session;
          none = k.spin.none;
        };
      }

  -- what waits for a link that something came to follows from what stands
  module _ (s : State) (j : Joined s) where
    told_joined : (event : Event (List Served)) → Pair (happens_at_all (spin_says vs) event s.venue.spins) s.client.spin s.spin_up
    told_joined event = record {
      session = matches_on (happens_at_all (spin_says vs) event) refl (λ es w. (event ∷ es, w ++ spin_says vs event es, refl)) s.venue.spins s.client.spin j.spin.session;
      none = j.spin.none;
    }

    commanded_joined : (command : Command) → Joined (venue_has unit limits (Commanded command) s)
    commanded_joined command = by (refusal s.venue.messages command)
      where
        by : (o : Option VenueError) → Joined (record s { venue = commanded_on o command s.venue })
        by None = j
        by (Some error) = j

    opened_grp : s.client.grp ≡ None → Joined (opened unit limits Grp s)
    opened_grp none = record {
      grp = record { session = ([], [], ap (with_new the_session) (subst (Matches s.venue.proxies) none j.grp.session)); none = tt };
      spin = record { session = j.spin.session; none = kept_none s.client.spin _ };
    }

    opened_spin : s.client.spin ≡ None → Joined (opened unit limits Spin s)
    opened_spin none = record {
      grp = record { session = j.grp.session; none = kept_none s.client.grp _ };
      spin = record { session = ([], [], ap (with_new the_session) (subst (Matches s.venue.spins) none j.spin.session)); none = tt };
    }

    gone : {X : Type 0} (sessions : List (Session X)) (link : Link) → Matches sessions link → without the_session sessions ≡ []
    gone sessions None is = ap (without the_session) is
    gone sessions (Some events) (es, w, is) = ap (without the_session) is

    ends_joined : (session : SessionKind) → Joined (ends unit limits session s)
    ends_joined Grp = record {
      grp = record { session = gone s.venue.proxies s.client.grp j.grp.session; none = refl };
      spin = record { session = j.spin.session; none = kept_none s.client.spin _ };
    }
    ends_joined Spin = record {
      grp = record { session = j.grp.session; none = kept_none s.client.grp _ };
      spin = record { session = gone s.venue.spins s.client.spin j.spin.session; none = refl };
    }

    up_joined : (session : SessionKind) (bytes : List ℕ) (n : ℕ) → Joined (server_fed unit limits session bytes (up_taken session n s))
    up_joined Grp bytes n = record {
      grp = record {
        session = matches_on (at_session the_session (proxy_fed vs s.venue bytes)) refl (λ es w. let event = Fed bytes (proxy_source vs s.venue es bytes) in (event ∷ es, w ++ proxy_says vs event es, refl)) s.venue.proxies s.client.grp j.grp.session;
        none = taken_none n s.client.grp s.grp_up j.grp.none;
      };
      spin = j.spin;
    }
    up_joined Spin bytes n =
        let x : State = venue_has unit limits (SpinTook the_session bytes) (up_taken Spin n s) in
        pumped_joined (pumps vs (session_of the_session x.venue.spins)) x
        (record {
          grp = j.grp;
          spin = record {
            session = matches_on (at_session the_session (spin_fed vs s.venue bytes)) refl (λ es w. let event = Fed bytes (spin_views s.venue es bytes) in (event ∷ es, w ++ spin_says vs event es, refl)) s.venue.spins s.client.spin j.spin.session;
            none = taken_none n s.client.spin s.spin_up j.spin.none;
          };
        })

    down_grp : (bytes : List ℕ) (n : ℕ) → Joined (link_fed unit limits Grp bytes (venue_has unit limits (ProxyPut the_session n) s))
    down_grp bytes n =
        let x : State = client_has unit limits (GrpTook bytes) (venue_has unit limits (ProxyPut the_session n) s) in
        let put = matches_on (at_session the_session (puts n)) refl (λ es w. (es, drop n w, refl)) s.venue.proxies s.client.grp j.grp.session in
        let stays : s.client.grp ≡ None → x.client.grp ≡ None = λ none. ap (λ (o : Link). let fed = fed_at gap_link bytes s.client.heard o in (settled_at gap_link GrpDown fed.heard fed.link).link) none in
        let both = settle_grp Pair x (record { session = covered x.venue.proxies s.client.grp x.client.grp put stays; none = kept_none x.client.grp _ }) (record { session = j.spin.session; none = kept_none s.client.spin _ }) in
        record { grp = both.0; spin = both.1 }

    down_spin : (bytes : List ℕ) (n : ℕ) → Joined (link_fed unit limits Spin bytes (venue_has unit limits (SpinPut the_session n) s))
    down_spin bytes n =
        let x : State = client_has unit limits (client.SpinTook bytes) (venue_has unit limits (SpinPut the_session n) s) in
        let put = matches_on (at_session the_session (puts n)) refl (λ es w. (es, drop n w, refl)) s.venue.spins s.client.spin j.spin.session in
        let stays : s.client.spin ≡ None → x.client.spin ≡ None = λ none. ap (λ (o : Link). let fed = fed_at (spin_link unit) bytes s.client.heard o in (settled_at (spin_link unit) SpinDown fed.heard fed.link).link) none in
        settle_spin x (record { session = j.grp.session; none = kept_none s.client.grp _ }) (record { session = covered x.venue.spins s.client.spin x.client.spin put stays; none = kept_none x.client.spin _ })

    second_joined : Joined (settled unit limits Spin (settled unit limits Grp (seconds unit limits s)))
    second_joined =
        let x : State = seconds unit limits s in
        let grp = matches_on (happens_at_all (proxy_says vs) Ticked) refl (λ es w. (Ticked ∷ es, w ++ proxy_says vs Ticked es, refl)) s.venue.proxies s.client.grp j.grp.session in
        let spin = (told_joined Ticked).session in
        let one = settle_grp Loose x (record { session = covered x.venue.proxies s.client.grp x.client.grp grp (second_grp cs s.client); none = kept_none x.client.grp _ })
        (record { session = covered x.venue.spins s.client.spin x.client.spin spin (second_spin cs s.client); none = kept_none x.client.spin _ }) in
        settle_spin (settled unit limits Grp x) one.0 one.1

    opens : (session : SessionKind) → Joined (does unit limits (verbs.Connect session) s).state
    opens Grp = by s.client.grp refl
      where
        by : (o : Link) → s.client.grp ≡ o → Joined (cond (is_some o) (done outcome.AlreadyOpen s) (done outcome.Opened (opened unit limits Grp s))).state
        by None none = opened_grp none
        by (Some events) is = j
    opens Spin = by s.client.spin refl
      where
        by : (o : Link) → s.client.spin ≡ o → Joined (cond (is_some o) (done outcome.AlreadyOpen s) (done outcome.Opened (opened unit limits Spin s))).state
        by None none = opened_spin none
        by (Some events) is = j

    verb_joined : (verb : Verb) → Joined (next_state unit limits verb s)
    verb_joined (verbs.Command command) = commanded_joined command
    verb_joined (verbs.Setup hold kept second minute day) = j
    verb_joined verbs.Flush = j
    verb_joined verbs.Beat = j
    verb_joined (verbs.Deliver line number) = by (numbered (datagrams_on s line) number)
      where
        by : (o : Option (List ℕ)) → Joined (delivered_on unit limits line number o s).state
        by None = j
        by (Some datagram) = hears_joined line (blocks_of datagram) s j
    verb_joined (verbs.Rest line) = hears_joined line (flat_map blocks_of (drop (passed_on s.passed line) (datagrams_on s line))) s j
    verb_joined (verbs.Connect session) = opens session
    verb_joined (verbs.Cut session) = either Joined (stands session s.client) (done outcome.Cut (ends unit limits session s)) (done outcome.NotOpen s) (ends_joined session) j
    verb_joined (verbs.Up session bytes) = carries Joined (stands session s.client) bytes (up_waits session s) (λ n. server_fed unit limits session (take n (up_waits session s)) (up_taken session n s)) s j (λ n. up_joined session (take n (up_waits session s)) n)
    verb_joined (verbs.Down Grp bytes) = carries Joined (stands Grp s.client) bytes (server_waits Grp s.venue) (λ n. link_fed unit limits Grp (take n (server_waits Grp s.venue)) (venue_has unit limits (ProxyPut the_session n) s)) s j (λ n. down_grp (take n (server_waits Grp s.venue)) n)
    verb_joined (verbs.Down Spin bytes) = carries Joined (stands Spin s.client) bytes (server_waits Spin s.venue) (λ n. link_fed unit limits Spin (take n (server_waits Spin s.venue)) (venue_has unit limits (SpinPut the_session n) s)) s j (λ n. down_spin (take n (server_waits Spin s.venue)) n)
    verb_joined verbs.Advertise = record { grp = j.grp; spin = told_joined (Told (length s.venue.messages)) }
    verb_joined verbs.Tick = second_joined
    verb_joined verbs.Show = j
    verb_joined (verbs.Quote symbol) = j

-- whatever verbs were done
pub joined : (unit : ℕ) (limits : Limits) (done : List Verb) → Joined (state_of unit limits done)
joined unit limits [] = record { grp = record { session = refl; none = refl }; spin = record { session = refl; none = refl } }
joined unit limits (verb ∷ before) = verb_joined unit limits (state_of unit limits before) (joined unit limits before) verb

-- ---- What follows
-- where a link does not stand, its server has no session, and nothing waits for it
pub record IsGone {X : Type 0} (sessions_there : List (Session X)) (link_there : Link) (waiting : List ℕ) : Type 0 where
  pub link : link_there ≡ None
  pub sessions : sessions_there ≡ []
  pub up : waiting ≡ []

gone_where : {X : Type 0} (sessions : List (Session X)) (link : Link) (up : List ℕ) → Pair sessions link up → link ≡ None → IsGone sessions link up
gone_where sessions link up p none = record { link = none; sessions = subst (Matches sessions) none p.session; up = subst (λ (l : Link). NoneWaits l up) none p.none }

module _ (unit : ℕ) (limits : Limits) (done : List Verb) where
  abbrev s : State
  s = state_of unit limits done

  pub no_proxy : (state_of unit limits done).client.grp ≡ None → IsGone (state_of unit limits done).venue.proxies (state_of unit limits done).client.grp (state_of unit limits done).grp_up
  no_proxy none = gone_where s.venue.proxies s.client.grp s.grp_up (joined unit limits done).grp none

  pub no_spin_server : (state_of unit limits done).client.spin ≡ None → IsGone (state_of unit limits done).venue.spins (state_of unit limits done).client.spin (state_of unit limits done).spin_up
  no_spin_server none = gone_where s.venue.spins s.client.spin s.spin_up (joined unit limits done).spin none

-- one link was cut, and the other is as it was
pub record WasCut (link other : EndState → Link) (before after : State) : Type 0 where
  pub gone : link after.client ≡ None
  pub stays : other after.client ≡ other before.client

module _ (unit : ℕ) (limits : Limits) (s : State) where
  pub cut_grp : WasCut (λ now. now.grp) (λ now. now.spin) s (next_state unit limits (verbs.Cut Grp) s)
  cut_grp = by s.client.grp refl
    where
      by : (o : Link) → s.client.grp ≡ o → WasCut (λ now. now.grp) (λ now. now.spin) s (record (cond (is_some o) (done outcome.Cut (ends unit limits Grp s)) (done outcome.NotOpen s)).state { begun = true })
      by None is = record { gone = is; stays = refl }
      by (Some events) is = record { gone = refl; stays = refl }

  pub cut_spin : WasCut (λ now. now.spin) (λ now. now.grp) s (next_state unit limits (verbs.Cut Spin) s)
  cut_spin = by s.client.spin refl
    where
      by : (o : Link) → s.client.spin ≡ o → WasCut (λ now. now.spin) (λ now. now.grp) s (record (cond (is_some o) (done outcome.Cut (ends unit limits Spin s)) (done outcome.NotOpen s)).state { begun = true })
      by None is = record { gone = is; stays = refl }
      by (Some events) is = record { gone = refl; stays = refl }
