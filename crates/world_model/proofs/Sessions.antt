-- What the verbs of sessions do to a world.
use Rattle.std.proofs.Common.{◌≡◌, ℕ, zero, suc, ◌≤◌, ◌<◌, Bool, true, false, cond, nat_lt, List, ◌∷◌, ◌++◌, length, take, drop, replicate, refl, sym, ap, ◌∙◌, subst, arith, Option, unwrap_or}
use Rattle.std.proofs.lemmas.Bool.Decides.{nat_tests}
use Rattle.std.proofs.lemmas.List.{append-nil}
use Rattle.pitch_text.specs.declared.verb.Session.{Session}
use Rattle.pitch_text.specs.declared.verb.Session.TheVariants.{Grp, Spin}
use Rattle.pitch_messages.specs.Room.{Roomy}
use Rattle.unit_packets.specs.Packing.{bytes_in}
use Rattle.client_end.specs.Came.{Second}
use Rattle.client_end.specs.Parts.{EndIs}
use Rattle.sending_end.specs.Waiting.{ended, made, took}
use Rattle.sending_end.specs.Stands.{OfSending, Passes as ComesTo, SendingStands, waiting}
use Rattle.sending_end.specs.declared.end.SendingEnd.{SendingEnd}
use Rattle.sending_end.specs.declared.session.Session.{Session as LinkSession}
use Rattle.sending_end.specs.declared.session.Session.TheVariants.{Proxy, SpinServer}
use Rattle.venue_end.specs.Came.{SpinPumped, VenueCame, VenueState, on_gap_line, venue_after, venue_step}
use Rattle.venue_end.specs.Came as venue
use Rattle.venue_end.specs.Sessions.{session_of}
use Rattle.venue_end.specs.Stands.{Comes, VenueIs}
use Rattle.venue_end.specs.declared.setup.VenueSetup.{VenueSetup}
use Rattle.venue_end.specs.declared.venue.VenueEnd.{VenueEnd}
use Rattle.world_model.specs.Ends.{at_client, client_setup, server_cut, server_made, server_put, server_took, server_waits, stands, the_session, venue_setup}
use Rattle.world_model.specs.Sound.{Sound}
use Rattle.world_model.specs.Stands.{HasClient}
use Rattle.world_model.specs.State.{State, up_taken, up_waits}
use Rattle.world_model.specs.Verbs.{carried, client_has, cut, done, ends, link_fed, opened, pumped, pumps, seconds, server_fed, settled, venue_has}
use Rattle.world_model.specs.declared.limits.Limits.{Limits}
use Rattle.world_model.specs.declared.outcome.Outcome.TheVariants as outcome
use Rattle.world_model.specs.declared.world.Acted.{Acted}
use Rattle.world_model.specs.declared.world.World.{World}
use Rattle.world_model.specs.layers.Feeding.{Feeds, fed_then}
use Rattle.world_model.specs.layers.Steps.{Acts, Passes, WorldHas}
use Rattle.world_model.proofs.Acting.{acts_passed, calm_of, client_still, passes_both, passes_none, passes_then, passes_venue, client_stands, seen_venue, venue_stands, venue_then}
use Rattle.world_model.proofs.Marks.{marks_ended, marks_fed, marks_made, marks_none, marks_second}
use Rattle.world_model.proofs.Sounding.{cut_sound, ends_sound, fed_sound, opened_sound, put_sound, seconds_sound, taken_sound}

module _ (session : Session) (w : World) (s : State) (has : WorldHas w s) where
  -- ---- Open and cut
  pub passes_opened : (venue : VenueEnd) (client : SendingEnd) → Comes w.venue venue (server_made session) → ComesTo w.client client (made (at_client session)) → Passes w (record w { venue = venue; client = client }) s (opened w.unit w.limits session s)
  passes_opened venue client one two =
      passes_both w s has venue (server_made session) (venue_then w s has venue (server_made session) one) client (made (at_client session)) two
      (marks_made w.limits.hold (client_setup w.unit w.limits) s.client session) (opened_sound w.unit w.limits session s has.sound)

  pub passes_ended : (venue : VenueEnd) (client : SendingEnd) → Comes w.venue venue (server_cut session) → ComesTo w.client client (ended (at_client session)) → Passes w (record w { venue = venue; client = client }) s (ends w.unit w.limits session s)
  passes_ended venue client one two =
      passes_both w s has venue (server_cut session) (venue_then w s has venue (server_cut session) one) client (ended (at_client session)) two
      (marks_ended w.limits.hold (client_setup w.unit w.limits) s.client session) (ends_sound w.unit w.limits session s has.sound)

  pub acts_cut : (new : World) (acted : Acted) → stands session s.client ≡ true → Passes w new s (ends w.unit w.limits session s) → acted ≡ calm_of outcome.Cut → Acts w new acted s (cut w.unit w.limits session s)
  acts_cut new acted there passes calm =
      subst (λ (b : Bool). Acts w new acted s (cond b (done outcome.Cut (ends w.unit w.limits session s)) (done outcome.NotOpen s))) (sym there) (acts_passed w new acted outcome.Cut s (ends w.unit w.limits session s) passes calm)

  -- ---- What was cut is settled
  pub passes_settled : (venue : VenueEnd) → stands session s.client ≡ false → Comes w.venue venue (server_cut session) → Passes w (record w { venue = venue }) s (settled w.unit w.limits session s)
  passes_settled venue gone comes =
      subst (λ (b : Bool). Passes w (record w { venue = venue }) s (cond b s (venue_has w.unit w.limits (server_cut session) s))) (sym gone)
      (passes_venue w s has venue (server_cut session) (venue_then w s has venue (server_cut session) comes) (cut_sound w.unit w.limits session s has.sound))

  pub passes_still : stands session s.client ≡ true → Passes w w s (settled w.unit w.limits session s)
  passes_still there = subst (λ (b : Bool). Passes w w s (cond b s (venue_has w.unit w.limits (server_cut session) s))) (sym there) (passes_none w s has)

pub settles_then : (session : Session) (w a b : World) (s t : State) → Passes w a s t → ((u : State) → WorldHas a u → Passes a b u (settled a.unit a.limits session u)) → Passes w b s (settled w.unit w.limits session t)
settles_then session w a b s t first settles =
    passes_then w a b s t (settled w.unit w.limits session t) first
    (subst (λ (l : Limits). Passes a b t (settled w.unit l session t)) first.limits_are (subst (λ (u : ℕ). Passes a b t (settled u a.limits session t)) first.unit_is (settles t first.has)))

-- ---- How many bytes are carried
-- what carrying so many leads to
abbrev pub after_up : World → Session → State → ℕ → State
after_up w session s n = server_fed w.unit w.limits session (take n (up_waits session s)) (up_taken session n s)

abbrev pub after_down : World → Session → State → ℕ → State
after_down w session s n = link_fed w.unit w.limits session (take n (server_waits session s.venue)) (venue_has w.unit w.limits (server_put session n) s)

less_is : (a b : ℕ) → a < b → nat_lt a b ≡ true
less_is a b less = grind (arith, nat_tests, less)

not_less : (a b : ℕ) → b ≤ a → nat_lt a b ≡ false
not_less a b few = grind (arith, nat_tests, few)

module _ (w : World) (acted : Acted) (s : State) (after : ℕ → State) (bytes : Option ℕ) (waits : List ℕ) (b : Bool) where
  pub acts_unopened : WorldHas w s → b ≡ false → acted ≡ calm_of outcome.NotOpen → Acts w w acted s (carried b bytes waits after s)
  acts_unopened has gone calm = subst (λ (x : Bool). Acts w w acted s (carried x bytes waits after s)) (sym gone) (acts_passed w w acted outcome.NotOpen s s (passes_none w s has) calm)

  module _ (there : b ≡ true) (many n : ℕ) (many_is : many ≡ length waits) (n_is : n ≡ unwrap_or bytes many) where
    wants : n ≡ unwrap_or bytes (length waits)
    wants = n_is ∙ ap (unwrap_or bytes) many_is

    pub acts_too_few : WorldHas w s → many < n → acted ≡ calm_of (outcome.TooFew n many) → Acts w w acted s (carried b bytes waits after s)
    acts_too_few has less calm =
        let asked : ℕ = unwrap_or bytes (length waits) in
        let same = wants in
        let few : nat_lt (length waits) asked ≡ true = less_is (length waits) asked (omega (arith, less, many_is, same)) in
        subst (λ (x : Bool). Acts w w acted s (carried x bytes waits after s)) (sym there)
        (subst (λ (x : Bool). Acts w w acted s (cond x (done (outcome.TooFew asked (length waits)) s) (done (outcome.Carried asked) (after asked)))) (sym few)
        (acts_passed w w acted (outcome.TooFew asked (length waits)) s s (passes_none w s has)
        (calm ∙ ap (λ (k : ℕ). calm_of (outcome.TooFew k many)) wants ∙ ap (λ (k : ℕ). calm_of (outcome.TooFew asked k)) many_is)))

    pub acts_carried : (new : World) → n ≤ many → Passes w new s (after n) → acted ≡ calm_of (outcome.Carried n) → Acts w new acted s (carried b bytes waits after s)
    acts_carried new few passes calm =
        let asked : ℕ = unwrap_or bytes (length waits) in
        let same = wants in
        let enough : nat_lt (length waits) asked ≡ false = not_less (length waits) asked (omega (arith, few, many_is, same)) in
        subst (λ (x : Bool). Acts w new acted s (carried x bytes waits after s)) (sym there)
        (subst (λ (x : Bool). Acts w new acted s (cond x (done (outcome.TooFew asked (length waits)) s) (done (outcome.Carried asked) (after asked)))) (sym enough)
        (acts_passed w new acted (outcome.Carried asked) s (after asked) (subst (λ (k : ℕ). Passes w new s (after k)) wants passes) (calm ∙ ap (λ (k : ℕ). calm_of (outcome.Carried k)) wants)))

-- ---- To a server
-- what waits at the client's end
pub waits_there : (session : Session) (w : World) (s : State) → WorldHas w s → waiting (at_client session) w.client ≡ up_waits session s
waits_there Grp w s has = has.is.client.grp_up
waits_there Spin w s has = has.is.client.spin_up

-- some of it is sent
sent_client : (session : Session) (w : World) (client : SendingEnd) (s : State) (n : ℕ) → (has : WorldHas w s) → waiting (at_client session) client ≡ drop n (waiting (at_client session) w.client)
    → ((other : LinkSession) → (other ≡ at_client session → ⊥) → waiting other client ≡ waiting other w.client) → SendingStands (client_setup w.unit w.limits) client has.sound.client_came
    → HasClient w.unit w.limits client (up_taken session n s)
sent_client Grp w client s n has left others is = record {
  unit_is = is.unit_is;
  end_is = subst (EndIs (client_setup w.unit w.limits) client.end) (sym has.sound.client_is) is.end_is;
  grp_up = left ∙ ap (drop n) has.is.client.grp_up;
  spin_up = others SpinServer (λ e. cc) ∙ has.is.client.spin_up;
}
sent_client Spin w client s n has left others is = record {
  unit_is = is.unit_is;
  end_is = subst (EndIs (client_setup w.unit w.limits) client.end) (sym has.sound.client_is) is.end_is;
  grp_up = others Proxy (λ e. cc) ∙ has.is.client.grp_up;
  spin_up = left ∙ ap (drop n) has.is.client.spin_up;
}

taken_is : (session : Session) (n : ℕ) (s : State) → up_taken session n s ≡ record s { grp_up = (up_taken session n s).grp_up; spin_up = (up_taken session n s).spin_up }
taken_is Grp n s = refl
taken_is Spin n s = refl

pub passes_taken : (session : Session) (w : World) (client : SendingEnd) (s : State) (n : ℕ) → (has : WorldHas w s) → waiting (at_client session) client ≡ drop n (waiting (at_client session) w.client)
    → ((other : LinkSession) → (other ≡ at_client session → ⊥) → waiting other client ≡ waiting other w.client) → OfSending w.client (λ c before. SendingStands c client before)
    → Passes w (record w { client = client }) s (up_taken session n s)
passes_taken session w client s n has left others holds =
    let same = taken_is session n s in
    subst (Passes w (record w { client = client }) s) (sym same) (record {
      unit_is = refl;
      limits_are = refl;
      quiet = marks_none w.limits.hold s.client.heard;
      has = record {
        is = record {
          begun = has.is.begun;
          venue = has.is.venue;
          client = subst (HasClient w.unit w.limits client) same (sent_client session w client s n has left others (holds (client_setup w.unit w.limits) has.sound.client_came (client_stands w s has)));
          sent = has.is.sent;
          replayed = has.is.replayed;
          passed = has.is.passed;
          noted = has.is.noted;
        };
        sound = subst (Sound w.unit w.limits) same (taken_sound w.unit w.limits session n s has.sound);
      };
    })

-- it comes to the server
module _ (unit : ℕ) (limits : Limits) where
  abbrev V : VenueSetup
  V = venue_setup unit limits

  pub pumped_venue : (n : ℕ) (t : State) (before : List VenueCame) → t.venue ≡ venue_after V before → (pumped unit limits n t).venue ≡ venue_after V (replicate n (SpinPumped the_session) ++ before)
  pumped_venue zero t before is = is
  pumped_venue (suc n) t before is = ap (venue_step V (SpinPumped the_session)) (pumped_venue n t before is)

  pub pumped_is : (n : ℕ) (t : State) → pumped unit limits n t ≡ record t { venue = (pumped unit limits n t).venue }
  pumped_is zero t = refl
  pumped_is (suc n) t = ap (venue_has unit limits (SpinPumped the_session)) (pumped_is n t)

  fed_venue : (session : Session) (piece : List ℕ) (t : State) (before : List VenueCame) → t.venue ≡ venue_after V before → (server_fed unit limits session piece t).venue ≡ venue_after V (fed_then V session piece before)
  fed_venue Grp piece t before is = ap (venue_step V (server_took Grp piece)) is
  fed_venue Spin piece t before is =
      let took : VenueState → VenueState = venue_step V (server_took Spin piece) in
      let calls : VenueState → ℕ = λ now. pumps V (session_of the_session now.spins) in
      pumped_venue (calls (took t.venue)) (venue_has unit limits (server_took Spin piece) t) (server_took Spin piece ∷ before) (ap took is)
      ∙ ap (λ (n : ℕ). venue_after V (replicate n (SpinPumped the_session) ++ server_took Spin piece ∷ before)) (ap calls (ap took is))

  -- the other parts of a state stay
  fed_is : (session : Session) (piece : List ℕ) (t : State)
      → server_fed unit limits session piece t ≡ record t { venue = (server_fed unit limits session piece t).venue; replayed = t.replayed ++ on_gap_line V (server_took session piece) t.venue }
  fed_is Grp piece t = refl
  fed_is Spin piece t =
      let u : State = venue_has unit limits (server_took Spin piece) t in
      let n : ℕ = pumps V (session_of the_session u.venue.spins) in
      pumped_is n u ∙ ap (λ (lines : List (List ℕ)). record t { venue = (pumped unit limits n u).venue; replayed = lines }) (sym (append-nil t.replayed))

pub passes_fed : (session : Session) (w : World) (venue : VenueEnd) (replayed : Roomy (Roomy ℕ)) (piece : List ℕ) (s : State) → (has : WorldHas w s) → Feeds w.venue venue session piece (bytes_in w.replayed.items) (bytes_in replayed.items)
    → Passes w (record w { venue = venue; replayed = replayed }) s (server_fed w.unit w.limits session piece s)
passes_fed session w venue replayed piece s has feeds =
    let v : VenueSetup = venue_setup w.unit w.limits in
    let t : State = server_fed w.unit w.limits session piece s in
    let lines : List (List ℕ) = on_gap_line v (server_took session piece) s.venue in
    let same = fed_is w.unit w.limits session piece s in
    subst (Passes w (record w { venue = venue; replayed = replayed }) s) (sym same) (record {
      unit_is = refl;
      limits_are = refl;
      quiet = marks_none w.limits.hold s.client.heard;
      has = record {
        is = record {
          begun = has.is.begun;
          venue = subst (VenueIs v venue) (sym (fed_venue w.unit w.limits session piece s has.sound.venue_came has.sound.venue_is)) (feeds.stands v has.sound.venue_came (venue_stands w s has));
          client = client_still w s has (record s { venue = t.venue; replayed = s.replayed ++ lines }) refl refl refl;
          sent = has.is.sent;
          replayed = seen_venue w s has (λ v now. bytes_in replayed.items ≡ bytes_in w.replayed.items ++ on_gap_line v (server_took session piece) now) feeds.lined ∙ ap (λ (ds : List (List ℕ)). ds ++ lines) has.is.replayed;
          passed = has.is.passed;
          noted = has.is.noted;
        };
        sound = subst (Sound w.unit w.limits) same (fed_sound w.unit w.limits session piece s has.sound);
      };
    })

-- ---- To the client
pub passes_put : (session : Session) (w : World) (venue : VenueEnd) (client : SendingEnd) (s : State) (n : ℕ) → (has : WorldHas w s) → Comes w.venue venue (server_put session n) → ComesTo w.client client (took (at_client session) (take n (server_waits session s.venue)))
    → Passes w (record w { venue = venue; client = client }) s (client_has w.unit w.limits (took (at_client session) (take n (server_waits session s.venue))) (venue_has w.unit w.limits (server_put session n) s))
passes_put session w venue client s n has one two =
    let piece : List ℕ = take n (server_waits session s.venue) in
    passes_both w s has venue (server_put session n) (venue_then w s has venue (server_put session n) one) client (took (at_client session) piece) two
    (marks_fed w.limits.hold (client_setup w.unit w.limits) s.client session piece) (put_sound w.unit w.limits session n s has.sound)

-- ---- A second
pub passes_seconds : (w : World) (e : VenueEnd) (client : SendingEnd) (s : State) → WorldHas w s → Comes w.venue e venue.Second → ComesTo w.client client Second → Passes w (record w { venue = e; client = client }) s (seconds w.unit w.limits s)
passes_seconds w e client s has one two =
    passes_both w s has e venue.Second (venue_then w s has e venue.Second one) client Second two
    (marks_second w.limits.hold (client_setup w.unit w.limits) s.client) (seconds_sound w.unit w.limits s has.sound)
