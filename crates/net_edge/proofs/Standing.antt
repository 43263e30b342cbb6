-- Along a run the venue has accepted and sent the messages up to the turn, and each server has one
-- session at most.
use Rattle.std.proofs.Common.{◌≡◌, ◌≤◌, ◌<◌, ◌-◌, ℕ, suc, Bool, true, false, cond, List, [], ◌∷◌, ◌++◌, length, map, arith, Option, Some, None, refl, sym, ap, ◌∙◌, subst}
use Rattle.std.proofs.lemmas.Bool.Decides.{nat_tests}
use Rattle.std.proofs.lemmas.List.{length-map}
use Rattle.std.specs.Prelude.{nat_le}
use Rattle.pitch_io.specs.Nets.{Call, Begin, Send, Next, Put, Take}
use Rattle.pitch_model.specs.History.{Raw}
use Rattle.pitch_text.specs.declared.verb.Session.TheVariants.{Grp, Spin}
use Rattle.pitch_text.specs.declared.verb.Verb.TheVariants as verbs
use Rattle.session_ends.specs.Events.{Ticked, Told}
use Rattle.venue_core.specs.Commands.{raw_of}
use Rattle.venue_core.specs.Plan.{plan, plan_command}
use Rattle.venue_core.specs.Refusals.{refusal}
use Rattle.venue_core.specs.declared.error.VenueError.{VenueError}
use Rattle.venue_core.proofs.PlanAccepted.{plan_accepted}
use Rattle.venue_core.proofs.PlanBooks.{plan_begins, plan_length, plan_step}
use Rattle.venue_end.specs.Came.{commanded_on}
use Rattle.venue_end.specs.Servers.{proxy_says, spin_says}
use Rattle.venue_end.specs.Sessions.{happens_at}
use Rattle.world_model.specs.Ends.{default_limits}
use Rattle.world_model.specs.State.{State}
use Rattle.world_model.specs.Verbs.{seconds, settled}
use Rattle.net_edge.specs.Acting.{all_tick, bytes_put, called, is_group_open, scene_after, scene_of}
use Rattle.net_edge.specs.Due.{Setting, accepted, demo_unit, messages}
use Rattle.net_edge.specs.Scene.{Scene, at_end, connected, done_with, published}
use Rattle.net_edge.specs.Steps.{Step, Did, Beat, Turn}
use Rattle.net_edge.specs.layers.Ends.{demo_venue}
use Rattle.net_edge.specs.layers.Playing.{IsAllSent, Plays}
use Rattle.net_edge.proofs.Keeping.{Keeps, heard_keeps, keeps_none, keeps_then, put_keeps, settled_keeps, takes_keep}
use Rattle.net_edge.proofs.Scenes.{at_world, on_world}
use Rattle.net_edge.proofs.Taking.{IsAlone}

-- ---- A message more
pub messages_many : (s : Setting) (turn : ℕ) → length (messages s turn) ≡ accepted s turn
messages_many s turn = plan_length s.number demo_unit (accepted s turn)

-- what a command of the plan leaves, and that it is sent
accepted_then : (s : Setting) (turn : ℕ) (w : State) (o : Option VenueError) → refusal w.venue.messages (plan_command s.number demo_unit (suc turn)) ≡ o → o ≡ None
    → (commanded_on o (plan_command s.number demo_unit (suc turn)) w.venue).messages ≡ w.venue.messages ++ raw_of (plan_command s.number demo_unit (suc turn)) ∷ []
accepted_then s turn w (Some error) is none = absurd (cc)
accepted_then s turn w None is none = refl

module _ (s : Setting) (few : s.count ≤ 1000) where
  pub published_sent : (turn : ℕ) (w : State) → IsAllSent s turn w → IsAllSent s (suc turn) (published s (suc turn) w)
  published_sent turn w is = by (nat_le (suc turn) s.count) refl
    where
      by : (b : Bool) → (nat_le (suc turn) s.count) ≡ b → IsAllSent s (suc turn) (cond b (done_with verbs.Flush (done_with (verbs.Command (plan_command s.number demo_unit (suc turn))) w)) w)
      by true goes =
          let within : suc turn ≤ s.count = grind (arith, nat_tests, goes) in
          let now_is : accepted s turn ≡ turn = omega (arith, within) in
          let next_is : accepted s (suc turn) ≡ suc turn = omega (arith, within) in
          let back : suc turn - 1 ≡ turn = omega arith in
          let so : w.venue.messages ≡ plan s.number demo_unit turn = is.accepted ∙ ap (plan s.number demo_unit) now_is in
          let fine : refusal w.venue.messages (plan_command s.number demo_unit (suc turn)) ≡ None =
          ap (λ (V : List Raw). refusal V (plan_command s.number demo_unit (suc turn))) (so ∙ ap (plan s.number demo_unit) (sym back)) ∙ plan_accepted s.number demo_unit (suc turn) (omega arith) (omega (arith, within, few)) in
          let then : (commanded_on (refusal w.venue.messages (plan_command s.number demo_unit (suc turn))) (plan_command s.number demo_unit (suc turn)) w.venue).messages ≡ messages s (suc turn) =
          accepted_then s turn w (refusal w.venue.messages (plan_command s.number demo_unit (suc turn))) refl fine
          ∙ ap (λ (V : List Raw). V ++ raw_of (plan_command s.number demo_unit (suc turn)) ∷ []) (so ∙ ap (plan s.number demo_unit) (sym back))
          ∙ sym (plan_step s.number demo_unit (suc turn) (omega arith)) ∙ ap (plan s.number demo_unit) (sym next_is) in
          record { accepted = then; all_sent = ap (λ (V : List Raw). length V) then }
      by false other =
          let above : s.count < suc turn = grind (arith, nat_tests, other) in
          let same : accepted s turn ≡ accepted s (suc turn) = omega (arith, above) in
          record {
            accepted = is.accepted ∙ ap (plan s.number demo_unit) same;
            all_sent = is.all_sent ∙ ap (λ (n : ℕ). length (plan s.number demo_unit n)) same;
          }

  pub published_alone : (turn : ℕ) (w : State) → IsAlone w → IsAlone (published s turn w)
  published_alone turn w is = record { proxies = grind (arith, is.proxies); spins = grind (arith, is.spins) }

  pub connected_sent : IsAllSent s 0 connected
  connected_sent =
      let none : accepted s 0 ≡ 0 = omega arith in
      let empty : [] ≡ messages s 0 = sym (ap (plan s.number demo_unit) none ∙ plan_begins s.number demo_unit) in
      record { accepted = empty; all_sent = ap (λ (V : List Raw). length V) empty }

  connected_alone : IsAlone connected
  connected_alone = record { proxies = omega arith; spins = omega arith }

-- ---- A tick
-- once the second passed, at both ends
pub tick_keeps : (w : State) → Keeps (seconds demo_unit default_limits (done_with verbs.Advertise w)) (all_tick w)
tick_keeps w =
    let passed : State = seconds demo_unit default_limits (done_with verbs.Advertise w) in
    keeps_then (settled_keeps Grp passed) (settled_keeps Spin (settled demo_unit default_limits Grp passed))

passed_alone : (w : State) → IsAlone w → IsAlone (seconds demo_unit default_limits (done_with verbs.Advertise w))
passed_alone w is =
    let told = happens_at (spin_says demo_venue) (Told (length w.venue.messages)) in
    record {
      proxies = omega (arith, is.proxies, length-map w.venue.proxies (happens_at (proxy_says demo_venue) Ticked));
      spins = omega (arith, is.spins, length-map w.venue.spins told, length-map (map told w.venue.spins) (happens_at (spin_says demo_venue) Ticked));
    }

-- ---- Along a run
pub called_turn : (call : Call) (now : Scene) → (called call now).turn ≡ now.turn
called_turn call now = grind arith

pub called_keeps : (call : Call) (now : Scene) → Keeps now.world (called call now).world
called_keeps (Begin answer) now = keeps_none now.world
called_keeps (Send line datagram answer) now = rw on_world (keeps_none now.world)
called_keeps (Next line room bytes answer) now = rw on_world (heard_keeps line bytes answer now.world)
called_keeps (Put at piece answer) now = rw at_world (put_keeps at (length (bytes_put answer piece)) now.world)
called_keeps (Take at room bytes answer) now = rw at_world (takes_keep at bytes answer (is_group_open (answer ∷ (at_end at now).answers)) now.world)

pub record Stood (s : Setting) (now : Scene) : Type 0 where
  pub sent : IsAllSent s now.turn now.world
  pub alone : IsAlone now.world

module _ (s : Setting) (few : s.count ≤ 1000) where
  sent_stays : (turn : ℕ) (w v : State) → Keeps w v → IsAllSent s turn w → IsAllSent s turn v
  sent_stays turn w v keeps is = record { accepted = keeps.messages ∙ is.accepted; all_sent = keeps.sent ∙ is.all_sent }

  alone_stays : (w v : State) → Keeps w v → IsAlone w → IsAlone v
  alone_stays w v keeps is = record { proxies = omega (arith, keeps.proxies, is.proxies); spins = omega (arith, keeps.spins, is.spins) }

  stood_more : (step : Step) (now : Scene) → Stood s now → Stood s (scene_after s step now)
  stood_more (Did call) now is = record {
    sent = rw called_turn (sent_stays now.turn now.world _ (called_keeps call now) is.sent);
    alone = alone_stays now.world _ (called_keeps call now) is.alone;
  }
  stood_more (Beat heartbeat answer) now is =
      let passed : State = seconds demo_unit default_limits (done_with verbs.Advertise now.world) in
      record {
        sent = sent_stays now.turn passed _ (tick_keeps now.world) (record { accepted = is.sent.accepted; all_sent = is.sent.all_sent });
        alone = alone_stays passed _ (tick_keeps now.world) (passed_alone now.world is.alone);
      }
  stood_more Turn now is = record { sent = published_sent s few now.turn now.world is.sent; alone = published_alone s few (suc now.turn) now.world is.alone }

  pub stood : (run : List Step) → Stood s (scene_of s run)
  stood [] = record { sent = published_sent s few 0 connected (connected_sent s few); alone = published_alone s few 1 connected (connected_alone s few) }
  stood (step ∷ before) = stood_more step (scene_of s before) (stood before)

  pub stood_at : (base : List Call) (calls : Option (List Call)) (now : Scene) → Plays s base calls now → Stood s now
  stood_at base calls now plays = subst (Stood s) plays.1.now_is (stood plays.0)
