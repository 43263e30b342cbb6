-- A connection with a Spin Server that is opened and carried without losses: the login, the sequence
-- that is advertised, and the image that is asked for.
use Rattle.std.proofs.Common.{◌≡◌, ℕ, zero, suc, ◌+◌, ◌<◌, Bool, true, false, ◌&&◌, cond, List, [], ◌∷◌, ◌++◌, length, refl, sym, ap, ◌∙◌, subst, arith, append_assoc, Option, Some, None, is_some, is_none}
use Rattle.std.specs.List.{concat}
use Rattle.pitch_messages.specs.declared.session.SessionMessage.TheVariants.{SpinAvailable, SpinFinished}
use Rattle.session_ends.specs.declared.closed.Closed.{Closed}
use Rattle.session_ends.specs.declared.role.Role.TheVariants.{SpinServer}
use Rattle.session_ends.specs.Closing.{closed_of, logged_in}
use Rattle.session_ends.specs.Events.{Event, Ticked, Pumped, Told, silence}
use Rattle.session_ends.specs.Sending.{message_bytes, heartbeat_bytes, sent_bytes, sent_since}
use Rattle.spin_server.specs.Served.{Served}
use Rattle.spin_server.specs.Serving.{Spin, running_spin, runs, blocks_left, pump_bytes, pumped, spin_sends, tell_bytes}
use Rattle.client_links.specs.Linking.{Lookups}
use Rattle.venue_end.specs.Servers.{spin_says}
use Rattle.world_model.specs.Ends.{venue_setup}
use Rattle.world_model.specs.declared.limits.Limits.{Limits}
use Rattle.world_laws.proofs.LinkHears.{Ready, Hears, hears_none, hears_beat}
use Rattle.world_laws.proofs.ServerRun.{Serves, spin_server, pump_serves, told_serves, tick_serves}

-- ---- A connection that stands
-- what waits on the way up and down, and what happened at both ends
pub record SpinConnection : Type 0 where
  pub up : List ℕ
  pub down : List ℕ
  pub server : List (Event (List Served))
  pub link : List (Event Lookups)

-- both ends are open; these bytes wait, and this is left of an image
pub record Round (unit : ℕ) (c : SpinConnection) (up down : List ℕ) (spin : Option Spin) : Type 0 where
  pub up_is : c.up ≡ up
  pub down_is : c.down ≡ down
  pub server : Serves unit c.server spin
  pub link : Ready unit c.link

-- how often the server is asked for the next block of an image
abbrev pub pumps_at : ℕ → List (Event (List Served)) → ℕ
pumps_at unit es = cond (runs (spin_server unit) es) (blocks_left (running_spin (spin_server unit) es) + 1) 1

-- at a tick it sends a heartbeat, or nothing
unfoldable pub beat_or_none : ℕ → Bool → List ℕ
beat_or_none unit b = cond b [] (heartbeat_bytes unit)

-- of which a link tells nothing
pub beat_hears : (unit : ℕ) (ls : List (Event Lookups)) → unit < 256 → Ready unit ls → (b : Bool) → Hears unit ls (beat_or_none unit b) []
unfolding beat_or_none
beat_hears unit ls small r true = hears_none unit ls r
beat_hears unit ls small r false = hears_beat unit ls r unit small

abbrev pub image_left : ℕ → List (List ℕ) → Option Spin
image_left n datagrams = Some (record { sequence = n; left = datagrams })

module _ (unit : ℕ) (limits : Limits) where
  abbrev says : Event (List Served) → List (Event (List Served)) → List ℕ
  says event before = spin_says (venue_setup unit limits) event before

  -- something happens at the server, which then says this
  abbrev pub at_server : Event (List Served) → SpinConnection → SpinConnection
  at_server event c = record { up = c.up; down = c.down ++ spin_says (venue_setup unit limits) event c.server; server = event ∷ c.server; link = c.link }

  abbrev pub pumped_times : ℕ → SpinConnection → SpinConnection
  pumped_times zero c = c
  pumped_times (suc n) c = at_server Pumped (pumped_times n c)

  -- a running image is sent to its end
  abbrev pub sent_whole : SpinConnection → SpinConnection
  sent_whole c = pumped_times (pumps_at unit c.server) c

  -- ---- Events at the server
  module _ (c : SpinConnection) (up down : List ℕ) where
    pub at_round : (spin after : Option Spin) → Round unit c up down spin → (event : Event (List Served)) (said : List ℕ) → says event c.server ≡ said → Serves unit (event ∷ c.server) after → Round unit (at_server event c) up (down ++ said) after
    at_round spin after r event said same serves = record { up_is = r.up_is; down_is = λ i. r.down_is i ++ same i; server = serves; link = r.link }

    pump_said : (es : List (Event (List Served))) (spin : Option Spin) → Serves unit es spin → says Pumped es ≡ pump_bytes (spin_server unit) spin
    pump_said es spin at =
        ap (λ (o : Option Closed). cond (is_some o) [] (pump_bytes (spin_server unit) (running_spin (spin_server unit) es))) at.open_is
        ∙ ap (pump_bytes (spin_server unit)) at.spin_is

    pub pump_round : (spin : Option Spin) → Round unit c up down spin → Round unit (at_server Pumped c) up (down ++ pump_bytes (spin_server unit) spin) (pumped spin)
    pump_round spin r = at_round spin (pumped spin) r Pumped (pump_bytes (spin_server unit) spin) (pump_said c.server spin r.server) (pump_serves unit c.server spin r.server)

    told_said : (n : ℕ) (es : List (Event (List Served))) → Serves unit es None → says (Told n) es ≡ sent_bytes (spin_server unit) (SpinAvailable n)
    told_said n es at =
        ap (λ (o : Option Closed). cond (is_some o) [] (tell_bytes (spin_server unit) (logged_in SpinServer es) (running_spin (spin_server unit) es) n)) at.open_is
        ∙ ap (λ (x : Option Spin). tell_bytes (spin_server unit) (logged_in SpinServer es) x n) at.spin_is
        ∙ ap (λ (b : Bool). tell_bytes (spin_server unit) b None n) at.logged

    pub told_round : (n : ℕ) → Round unit c up down None → Round unit (at_server (Told n) c) up (down ++ message_bytes unit (SpinAvailable n)) None
    told_round n r = at_round None None r (Told n) (message_bytes unit (SpinAvailable n)) (told_said n c.server r.server) (told_serves unit c.server None r.server n)

    tick_said : (es : List (Event (List Served))) → closed_of (spin_server unit) (Ticked ∷ es) ≡ None → says Ticked es ≡ beat_or_none unit (sent_since (spin_sends (spin_server unit)) SpinServer es)
    unfolding beat_or_none
    tick_said es open_is = ap (λ (o : Option Closed). cond (is_some o) [] (cond (sent_since (spin_sends (spin_server unit)) SpinServer es) [] (heartbeat_bytes unit))) open_is

    pub tick_round : Round unit c up down None → silence c.server ≡ 0 → Round unit (at_server Ticked c) up (down ++ beat_or_none unit (sent_since (spin_sends (spin_server unit)) SpinServer c.server)) None
    tick_round r none =
        let serves = tick_serves unit c.server None r.server none in
        at_round None None r Ticked (beat_or_none unit (sent_since (spin_sends (spin_server unit)) SpinServer c.server)) (tick_said c.server serves.open_is) serves

  -- ---- Until the image is sent
  pumped_first : (n : ℕ) (c : SpinConnection) → pumped_times (suc n) c ≡ pumped_times n (at_server Pumped c)
  pumped_first zero c = refl
  pumped_first (suc n) c = ap (at_server Pumped) (pumped_first n c)

  pumps_are : (es : List (Event (List Served))) (spin : Option Spin) → Serves unit es spin → pumps_at unit es ≡ cond (is_some spin) (blocks_left spin + 1) 1
  pumps_are es spin at =
      ap (λ (o : Option Closed). cond (is_none o && is_some (running_spin (spin_server unit) es)) (blocks_left (running_spin (spin_server unit) es) + 1) 1) at.open_is
      ∙ ap (λ (x : Option Spin). cond (is_some x) (blocks_left x + 1) 1) at.spin_is

  -- where no image runs, once
  pub none_sent : (c : SpinConnection) (up down : List ℕ) → Round unit c up down None → sent_whole c ≡ at_server Pumped c
  none_sent c up down r = ap (λ (k : ℕ). pumped_times k c) (pumps_are c.server None r.server)

  all_pumped : (n : ℕ) (datagrams : List (List ℕ)) (c : SpinConnection) (up down : List ℕ) → Round unit c up down (image_left n datagrams)
      → Round unit (pumped_times (length datagrams + 1) c) up (down ++ (concat datagrams ++ message_bytes unit (SpinFinished n))) None
  all_pumped n [] c up down r = pump_round c up down (image_left n []) r
  all_pumped n (datagram ∷ datagrams) c up down r =
      let first = pump_round c up down (image_left n (datagram ∷ datagrams)) r in
      let rest = all_pumped n datagrams (at_server Pumped c) up (down ++ datagram) first in
      let one_more : length (datagram ∷ datagrams) + 1 ≡ suc (length datagrams + 1) = omega arith in
      let calls : pumped_times (length (datagram ∷ datagrams) + 1) c ≡ pumped_times (length datagrams + 1) (at_server Pumped c) =
      ap (λ (k : ℕ). pumped_times k c) one_more ∙ pumped_first (length datagrams + 1) c in
      let finished : List ℕ = message_bytes unit (SpinFinished n) in
      let joined : (down ++ datagram) ++ (concat datagrams ++ finished) ≡ down ++ (concat (datagram ∷ datagrams) ++ finished) =
      append_assoc down datagram (concat datagrams ++ finished) ∙ ap (λ (l : List ℕ). down ++ l) (sym (append_assoc datagram (concat datagrams) finished)) in
      subst (λ (k : SpinConnection). Round unit k up (down ++ (concat (datagram ∷ datagrams) ++ finished)) None) (sym calls)
      (subst (λ (b : List ℕ). Round unit (pumped_times (length datagrams + 1) (at_server Pumped c)) up b None) joined rest)

  pub image_sent : (n : ℕ) (datagrams : List (List ℕ)) (c : SpinConnection) (up down : List ℕ) → Round unit c up down (image_left n datagrams)
      → Round unit (sent_whole c) up (down ++ (concat datagrams ++ message_bytes unit (SpinFinished n))) None
  image_sent n datagrams c up down r =
      subst (λ (k : ℕ). Round unit (pumped_times k c) up (down ++ (concat datagrams ++ message_bytes unit (SpinFinished n))) None) (sym (pumps_are c.server (image_left n datagrams) r.server)) (all_pumped n datagrams c up down r)
