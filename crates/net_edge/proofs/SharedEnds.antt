-- A venue's end over a shared unit.
use Rattle.std.proofs.Common.{◌≡◌, ◌≤◌, ◌<◌, ℕ, suc, ◌+◌, ◌-◌, ◌&&◌, Bool, true, false, cond, Option, None, Some, is_some, is_none, List, [], ◌∷◌, ◌++◌, length, drop, refl, sym, ap, ◌∙◌, subst, arith, length-append, length-drop}
use Rattle.std.proofs.Math.Seq.{drop-length}
use Rattle.std.proofs.lemmas.List.{drop-append-le}
use Rattle.std.specs.List.{AllByRecursion}
use Rattle.pitch_fields.specs.Limits.{last_sequence}
use Rattle.pitch_text.specs.declared.command.Command.{Command}
use Rattle.pitch_text.specs.declared.verb.Session.TheVariants.{Grp}
use Rattle.unit_packets.specs.BlockBytes.{block_bytes, heartbeat_block}
use Rattle.unit_packets.specs.Packing.{IsPacking, packed}
use Rattle.pitch_model.specs.History.{Raw}
use Rattle.pitch_model.specs.Honest.{AreVenues}
use Rattle.heard_items.specs.Datagrams.{IsPiece}
use Rattle.heard_items.proofs.Datagrams.{venues_after}
use Rattle.session_ends.specs.Closing.{closed_of, or_else}
use Rattle.session_ends.specs.Events.{Pumped}
use Rattle.session_ends.specs.Sending.{new_items}
use Rattle.session_ends.specs.declared.closed.Closed.{Closed}
use Rattle.grp_session.specs.Serving.{Source}
use Rattle.grp_session.proofs.Replies.{proxy_pieces, views_same}
use Rattle.spin_server.specs.Served.{Served}
use Rattle.spin_server.specs.Serving.{Spin as Running, blocks_left, pumped as spin_pumped, running_spin, spin_left}
use Rattle.shared_unit.specs.layers.Moments.{Writing}
use Rattle.unit_market.specs.Markets.{Journal, kept_view}
use Rattle.unit_market.specs.Views.{new_journal}
use Rattle.venue_core.specs.Commands.{raw_of}
use Rattle.venue_core.specs.declared.error.VenueError.{VenueError}
use Rattle.venue_end.specs.Came.{VenueCame, VenueState, Advertised, Beaten, Commanded, Flushed, SpinPumped, answers_in, commanded_on, journal_in, nothing_came, on_gap_line, on_lines, proxy_source, venue_step}
use Rattle.venue_end.specs.Feeding.{runs_on}
use Rattle.venue_end.specs.Servers.{proxy_setup, spin_says, spin_setup}
use Rattle.venue_end.specs.Sessions.{Session as Served_session, happens_at, session_of}
use Rattle.venue_end.specs.Stands.{ServersAre}
use Rattle.venue_end.specs.declared.servers.Servers.{Servers}
use Rattle.venue_end.specs.layers.Serving.{ComesTo, OfServers, StillHas}
use Rattle.venue_end.proofs.Ends.{servers_still}
use Rattle.served_laws.proofs.Sessions.{became, one_becomes}
use Rattle.world_model.specs.Ends.{default_limits, server_took, the_session}
use Rattle.world_model.specs.State.{State}
use Rattle.world_model.specs.Verbs.{pumped, pumps, sent_whole}
use Rattle.net_edge.specs.Due.{demo_unit}
use Rattle.net_edge.specs.layers.Ends.{AreMessages, HandsOut, demo_venue}
use Rattle.net_edge.specs.layers.Shared.{Accepts, Advertises, SharedHas, SharedIs}

-- ---- The start
pub opens : (market : Writing) (servers : Servers) (unsent : List Raw) → unsent ≡ [] → SharedHas market (new_journal demo_unit default_limits.kept) → ServersAre demo_venue servers nothing_came → SharedIs market servers unsent 1 nothing_came
opens market servers unsent none has are = record {
  has = has;
  are = are;
  within = omega arith;
  unsent_is = none;
  next_is = refl;
}

-- ---- Sessions
-- this changes the sessions alone
abbrev pub IsAlone : VenueCame → Type 0
IsAlone came = (now : VenueState) → journal_in demo_venue (venue_step demo_venue came now) ≡ journal_in demo_venue now

module _ (unsent : List Raw) (next : ℕ) where
  pub alone_is : (market market' : Writing) (old new : Servers) (came : VenueCame) (now : VenueState) → IsAlone came → StillHas SharedHas market market' → ServersAre demo_venue new (venue_step demo_venue came now) → SharedIs market old unsent next now
      → SharedIs market' new unsent next (venue_step demo_venue came now)
  alone_is market market' old new came now alone still are is =
      let same : journal_in demo_venue now ≡ journal_in demo_venue (venue_step demo_venue came now) = sym (alone now) in
      record {
        has = subst (SharedHas market') same (still (journal_in demo_venue now) is.has);
        are = are;
        within = subst (λ (j : Journal). j.sent ≤ length j.messages) same is.within;
        unsent_is = is.unsent_is ∙ ap (λ (j : Journal). drop j.sent j.messages) same;
        next_is = is.next_is ∙ ap (λ (j : Journal). j.sent + 1) same;
      }

  pub alone_comes : (market : Writing) (old new : Servers) (came : VenueCame) → IsAlone came → ComesTo old new came → (now : VenueState) → SharedIs market old unsent next now → SharedIs market new unsent next (venue_step demo_venue came now)
  alone_comes market old new came alone comes now is = alone_is market market old new came now alone (λ j has. has) (comes demo_venue now is.are) is

-- ---- What goes on the gap line
answer_pieces : (now : VenueState) → AreMessages now.messages → (bytes : List ℕ) (session : Option (Served_session Source)) → AllByRecursion (IsPiece now.messages demo_unit) (answers_in demo_venue now bytes session).lines
answer_pieces now are bytes None = tt
answer_pieces now are bytes (Some session) =
    let small : demo_unit < 256 = omega arith in
    proxy_pieces now.messages demo_unit small are.raws are.few (proxy_setup demo_venue) session.happened bytes (proxy_source demo_venue now session.happened bytes) refl
    (views_same (length (new_items session.happened bytes)) (kept_view (journal_in demo_venue now)) now.messages refl)

pub grp_hands : (now : VenueState) → AreMessages now.messages → (piece : List ℕ) (lines lines' : List (List ℕ)) → lines' ≡ lines ++ on_gap_line demo_venue (server_took Grp piece) now → HandsOut now lines lines' (on_gap_line demo_venue (server_took Grp piece) now)
grp_hands now are piece lines lines' lined = record { lined = lined; pieces = answer_pieces now are piece (session_of the_session now.proxies) }

-- ---- The market
pub accepts_comes : (market market' : Writing) (servers : Servers) (unsent unsent' : List Raw) (next : ℕ) (command : Command) (raw : Raw) → raw ≡ raw_of command → ((j : Journal) → SharedHas market j → Accepts market market' command j) → unsent' ≡ unsent ++ raw ∷ []
    → (now : VenueState) → SharedIs market servers unsent next now → SharedIs market' servers unsent' next (venue_step demo_venue (Commanded command) now)
accepts_comes market market' servers unsent unsent' next command raw raw_is accepts grown now is =
    let accepted : Accepts market market' command (journal_in demo_venue now) = accepts (journal_in demo_venue now) is.has in
    let within = is.within in
    subst (λ (r : Option VenueError). SharedIs market' servers unsent' next (commanded_on r command now)) (sym accepted.not_refused) (record {
      has = accepted.has;
      are = servers_still demo_venue servers now (now.messages ++ raw_of command ∷ []) now.sent is.are;
      within = omega (arith, within, length-append now.messages (raw_of command ∷ []));
      unsent_is = grown ∙ ap (λ (r : Raw). unsent ++ r ∷ []) raw_is ∙ ap (λ (rs : List Raw). rs ++ raw_of command ∷ []) is.unsent_is ∙ sym (drop-append-le now.sent now.messages (raw_of command ∷ []) is.within);
      next_is = is.next_is;
    })

pub advertises_comes : (market market' : Writing) (old new : Servers) (unsent : List Raw) (next sequence : ℕ) → ((j : Journal) → SharedHas market j → Advertises market market' sequence j)
    → OfServers old (λ s now. sequence ≡ length now.messages → ServersAre s new (venue_step s Advertised now)) → (now : VenueState) → SharedIs market old unsent next now → SharedIs market' new unsent next (venue_step demo_venue Advertised now)
advertises_comes market market' old new unsent next sequence advertises tells now is =
    let advertised : Advertises market market' sequence (journal_in demo_venue now) = advertises (journal_in demo_venue now) is.has in
    record {
      has = advertised.has;
      are = tells demo_venue now is.are advertised.sequence_is;
      within = is.within;
      unsent_is = is.unsent_is;
      next_is = is.next_is;
    }

module _ (market : Writing) (servers : Servers) (unsent : List Raw) (next : ℕ) (now : VenueState) (is : SharedIs market servers unsent next now) where
  pub flush_comes : (unsent' : List Raw) (next' : ℕ) → unsent' ≡ [] → next' ≡ next + length unsent → SharedIs market servers unsent' next' (venue_step demo_venue Flushed now)
  flush_comes unsent' next' none goes =
      let many : length unsent ≡ length (drop now.sent now.messages) = ap (λ (rs : List Raw). length rs) is.unsent_is in
      let size : length (drop now.sent now.messages) ≡ length now.messages - now.sent = length-drop now.sent now.messages in
      let within = is.within in
      let next_is = is.next_is in
      record {
        has = record { unit_is = is.has.unit_is; kept_is = is.has.kept_is; reaches = is.has.reaches; accepted_is = is.has.accepted_is; advertised_is = is.has.advertised_is; messages = is.has.messages };
        are = servers_still demo_venue servers now now.messages (length now.messages) is.are;
        within = omega arith;
        unsent_is = none ∙ sym (drop-length now.messages);
        next_is = omega (arith, goes, many, size, within, next_is);
      }

  -- what it hands out, by the laws of pieces
  pub flush_hands : ((V : List Raw) (unit first : ℕ) (raws : List Raw) (datagrams : List (List ℕ)) → 0 < first → first + length raws ≤ length V + 1 → AreVenues V first raws → IsPacking unit first raws datagrams → AllByRecursion (IsPiece V unit) datagrams)
      → (lines lines' : List (List ℕ)) → lines' ≡ lines ++ packed demo_unit next unsent → IsPacking demo_unit next unsent (packed demo_unit next unsent) → HandsOut now lines lines' (on_lines demo_venue Flushed now)
  flush_hands law lines lines' lined packing =
      let size : length (drop now.sent now.messages) ≡ length now.messages - now.sent = length-drop now.sent now.messages in
      let within = is.within in
      record {
        lined = rw (is.next_is, is.unsent_is) at lined;
        pieces = law now.messages demo_unit (now.sent + 1) (drop now.sent now.messages) _ (omega arith) (omega (arith, size, within)) (venues_after now.messages now.sent) (rw (is.next_is, is.unsent_is) at packing);
      }

  pub beat_hands : ((V : List Raw) (unit next : ℕ) → unit < 256 → 0 < next → next ≤ length V + 1 → next ≤ last_sequence + 1 → IsPiece V unit (block_bytes (heartbeat_block unit next)))
      → (bytes : List ℕ) → bytes ≡ block_bytes (heartbeat_block demo_unit next) → HandsOut now [] (bytes ∷ []) (on_lines demo_venue Beaten now)
  beat_hands law bytes bytes_are =
      let within = is.within in
      let few = is.has.messages.few in
      record {
        lined = rw (bytes_are, is.next_is);
        pieces = (law now.messages demo_unit (now.sent + 1) (omega arith) (omega arith) (omega (arith, within)) (omega (arith, within, few)), tt);
      }

-- ---- A Spin Server that is asked for blocks until its image is sent
one_less : (closed : Option Closed) (spin : Option Running)
    → cond (is_none closed && is_some spin) (blocks_left spin + 1) 1
    ≡ 1 + cond (is_none (or_else closed None) && is_some (spin_pumped spin)) (cond (is_none (or_else closed None) && is_some (spin_pumped spin)) (blocks_left (spin_pumped spin) + 1) 1) 0
one_less (Some closed) spin = omega arith
one_less None None = omega arith
one_less None (Some spin) = by spin.left
  where
    by : (left : List (List ℕ)) → length left + 1
        ≡ 1 + cond (is_some (spin_left spin.sequence left)) (cond (is_some (spin_left spin.sequence left)) (blocks_left (spin_left spin.sequence left) + 1) 1) 0
    by [] = omega arith
    by (datagram ∷ datagrams) = omega arith

abbrev asked : Served_session (List Served) → Served_session (List Served)
asked session = happens_at (spin_says demo_venue) Pumped session

one_call : (o : Option (Served_session (List Served))) → pumps demo_venue o ≡ 1 + cond (runs_on demo_venue o) (pumps demo_venue (became asked (λ k. refl) o)) 0
one_call None = refl
one_call (Some session) = one_less (closed_of (spin_setup demo_venue) session.happened) (running_spin (spin_setup demo_venue) session.happened)

module _ (w : State) where
  abbrev pub after_calls : ℕ → State
  after_calls calls = pumped demo_unit default_limits calls w

  abbrev pub left_then : ℕ → ℕ
  left_then calls = pumps demo_venue (session_of the_session (after_calls calls).venue.spins)

  -- some calls were made, and if one more is to be made, so many in all
  pub record Pumping (market : Writing) (servers : Servers) (unsent : List Raw) (next : ℕ) (more : Bool) : Type 0 where
    pub calls : ℕ
    pub is : SharedIs market servers unsent next (after_calls calls).venue
    pub rest : calls + cond more (left_then calls) 0 ≡ left_then 0

  module _ (market : Writing) (unsent : List Raw) (next : ℕ) where
    pub pumping_begins : (servers : Servers) → SharedIs market servers unsent next w.venue → Pumping market servers unsent next true
    pumping_begins servers is = record { calls = 0; is = is; rest = omega arith }

    pub pumping_on : (old new : Servers) (more : Bool) → Pumping market old unsent next true → ComesTo old new (SpinPumped the_session) → OfServers old (λ s now. more ≡ runs_on s (session_of the_session now.spins)) → Pumping market new unsent next more
    pumping_on old new more p comes goes =
        let now : VenueState = (after_calls p.calls).venue in
        let o : Option (Served_session (List Served)) = session_of the_session now.spins in
        let there : session_of the_session (after_calls (suc p.calls)).venue.spins ≡ became asked (λ k. refl) o = one_becomes asked (λ k. refl) the_session now.spins in
        let one : left_then p.calls ≡ 1 + cond more (left_then (suc p.calls)) 0 =
        one_call o ∙ ap (λ (x : Option (Served_session (List Served))). 1 + cond (runs_on demo_venue o) (pumps demo_venue x) 0) (sym there) ∙ ap (λ (b : Bool). 1 + cond b (left_then (suc p.calls)) 0) (sym (goes demo_venue now p.is.are)) in
        let before_it : p.calls + left_then p.calls ≡ left_then 0 = p.rest in
        record { calls = suc p.calls; is = alone_comes unsent next market old new (SpinPumped the_session) (λ v. refl) comes now p.is; rest = omega (arith, one, before_it) }

    pub pumping_ends : (servers : Servers) → Pumping market servers unsent next false → SharedIs market servers unsent next (sent_whole demo_unit default_limits w).venue
    pumping_ends servers p =
        let all : p.calls + 0 ≡ left_then 0 = p.rest in
        let calls : p.calls ≡ left_then 0 = omega (arith, all) in
        subst (λ (n : ℕ). SharedIs market servers unsent next (after_calls n).venue) calls p.is
