-- How a run and a turn start, and where a run stops.
use Rattle.std.proofs.Common.{◌≡◌, ◌≤◌, ◌<◌, ◌+◌, ◌-◌, ◌⊎◌, inl, inr, ℕ, suc, List, [], Option, None, Some, refl, sym, ap, ◌∙◌, subst, arith}
use Rattle.std.proofs.Math.Seq.{drop-length}
use Rattle.pitch_io.specs.declared.net.LinkEnd.{LinkEnd}
use Rattle.pitch_io.specs.declared.net.LinkEnd.TheVariants.{GrpClient, GrpServer, SpinClient, SpinServer}
use Rattle.pitch_io.specs.declared.net.NetDone.TheVariants.{Done}
use Rattle.pitch_io.specs.Nets.{Call, Begin, NetDoneFailed}
use Rattle.pitch_io.specs.layers.Coming.{ListsCall}
use Rattle.pitch_model.specs.declared.status.Status.{Status}
use Rattle.pitch_model.specs.declared.status.Status.TheVariants.{Current}
use Rattle.sending_end.specs.Stands.{NoneWaits, SendingStands}
use Rattle.venue_end.specs.Came.{VenueState, nothing_came}
use Rattle.world_model.specs.State.{State, start}
use Rattle.net_edge.specs.Acting.{next_turn}
use Rattle.net_edge.specs.Demo.{IsLast}
use Rattle.net_edge.specs.Due.{Setting}
use Rattle.net_edge.specs.Scene.{Scene, connected, first_scene, published, waits_at}
use Rattle.net_edge.specs.Turns.{MayGoOn, client_status}
use Rattle.net_edge.specs.declared.stage.Stage.{Stage}
use Rattle.net_edge.specs.layers.Ends.{Becomes, Holds, demo_client, no_ends}
use Rattle.net_edge.specs.layers.Playing.{IsAllSent, IsSentTo, IsUncalled, NothingWaits, Plays, TurnBegins, TurnEnds, all_put_at, calls_before}
use Rattle.net_edge.proofs.Emptying.{PutsAll, put_one}
use Rattle.net_edge.proofs.Runs.{play_turn}
use Rattle.net_edge.proofs.Standing.{connected_sent, stood_at}

-- what is done has not failed
pub done_well : NetDoneFailed Done → ⊥
done_well failed = failed

-- ---- A message that is accepted and sent
-- says nothing, and no second passes by it
pub record Publishes (w v : State) : Type 0 where
  pub waits : (at : LinkEnd) → waits_at at v ≡ waits_at at w
  pub replayed : v.replayed ≡ w.replayed
  pub seconds : v.venue.spent.now ≡ w.venue.spent.now

pub publishes : (s : Setting) (turn : ℕ) (w : State) → Publishes w (published s turn w)
publishes s turn w = record { waits = λ at. waits at; replayed = grind arith; seconds = grind arith }
  where
    waits : (at : LinkEnd) → waits_at at (published s turn w) ≡ waits_at at w
    waits at = grind arith

-- ---- A stage to which nothing came
pub stage_first : {V : Type 0} (is : V → VenueState → Type 0) (e : Stage V) → is e.venue nothing_came → SendingStands demo_client e.client [] → NoneWaits e.client → Holds is e start
stage_first is e venue stands waits = record {
  venue = venue;
  client = record { unit_is = stands.unit_is; end_is = stands.end_is; grp_up = waits.proxy; spin_up = waits.spin_server };
  came = [];
  came_is = refl;
}

-- ---- The start of a run
pub plays_none : (s : Setting) (before after : Option (List Call)) → ListsCall before after (Begin Done) → Plays s (calls_before before) after (first_scene s)
plays_none s before None lists = ([], record { told = tt; steps = tt; now_is = refl })
plays_none s None (Some calls) lists = absurd lists
plays_none s (Some before) (Some calls) lists = ([], record { told = lists; steps = tt; now_is = refl })

-- what is put of both logins
abbrev both_put : State → State
both_put w = put_one SpinClient (put_one GrpClient w)

abbrev pub logged_in : Setting → Scene
logged_in s = all_put_at SpinClient (all_put_at GrpClient (first_scene s))

logged_world : (s : Setting) → (logged_in s).world ≡ published s 1 (both_put connected)
logged_world s = grind arith

none_waits : NothingWaits (both_put connected)
none_waits GrpClient = drop-length (waits_at GrpClient connected)
none_waits GrpServer = refl
none_waits SpinClient = drop-length (waits_at SpinClient connected)
none_waits SpinServer = refl

module _ {V : Type 0} (is : V → VenueState → Type 0) (s : Setting) (few : s.count ≤ 1000) where
  pub begins : (calls calls' : Option (List Call)) (stage : Stage V) → Plays s (calls_before calls) calls' (logged_in s) → Holds is stage (both_put connected) → stage.ended ≡ no_ends → TurnBegins is s (calls_before calls) calls' stage 1 (logged_in s)
  begins calls calls' stage plays holds ended =
      let after = publishes s 1 (both_put connected) in
      record {
        few = few;
        turn_is = refl;
        world = both_put connected;
        world_is = logged_world s;
        holds = holds;
        ended = ended;
        plays = plays;
        put = λ at. ap (waits_at at) (logged_world s) ∙ after.waits at ∙ none_waits at;
        replayed = sym (ap (λ (w : State). w.replayed) (logged_world s) ∙ after.replayed);
        all_sent = (let first = connected_sent s few in record { accepted = first.accepted; all_sent = first.all_sent });
        sent = record { on_a = refl; on_b = refl; ticked = ap (λ (w : State). w.venue.spent.now) (logged_world s) ∙ after.seconds };
        uncalled = uncalled;
      }
    where
      uncalled : IsUncalled (logged_in s)
      uncalled place = grind arith

  -- the net was set up, and both logins were put
  pub logs_in : (c0 c1 c2 c3 : Option (List Call)) (one two three : Stage V) → ListsCall c0 c1 (Begin Done) → Becomes is one two (put_one GrpClient) → Becomes is two three (put_one SpinClient) → PutsAll is GrpClient c1 c2 one → PutsAll is SpinClient c2 c3 two
      → Holds is one connected → one.ended ≡ no_ends → (now : Scene) × TurnBegins is s (calls_before c0) c3 three 1 now
  logs_in c0 c1 c2 c3 one two three lists grp spin grp_plays spin_plays holds ended =
      let first : Plays s (calls_before c0) c1 (first_scene s) = plays_none s c0 c1 lists in
      let second = grp_plays s (calls_before c0) (first_scene s) connected holds (sym ((publishes s 1 connected).waits GrpClient)) first in
      let there = grp.holds connected holds in
      let third = spin_plays s (calls_before c0) (all_put_at GrpClient (first_scene s)) (put_one GrpClient connected) there (sym ((publishes s 1 connected).waits SpinClient)) second in
      (logged_in s, begins c0 c3 three third (spin.holds (put_one GrpClient connected) there) (spin.ended ∙ grp.ended ∙ ended))

  -- ---- Another turn
  pub turn_again : (base : List Call) (calls : Option (List Call)) (stage : Stage V) (turn next : ℕ) → next ≡ turn + 1 → (e : TurnEnds is s base calls stage turn) → MayGoOn s e.now → TurnBegins is s base calls stage next (next_turn s e.now)
  turn_again base calls stage turn next next_is e goes =
      let n : Scene = e.now in
      let turns : suc n.turn ≡ next = (let a = e.turn_is in omega (arith, a, next_is)) in
      let back : n.turn ≡ next - 1 = (let a = e.turn_is in omega (arith, a, next_is)) in
      let after = publishes s (suc n.turn) n.world in
      let stands = stood_at s few base calls n e.at.at.plays in
      record {
        few = few;
        turn_is = turns;
        world = n.world;
        world_is = ap (λ (t : ℕ). published s t n.world) turns;
        holds = e.at.at.holds;
        ended = e.at.at.ended;
        plays = play_turn s base calls n e.over goes e.at.at.plays;
        put = λ at. after.waits at ∙ e.at.put at;
        replayed = e.at.replayed ∙ sym after.replayed;
        all_sent = subst (λ (t : ℕ). IsAllSent s t n.world) back stands.sent;
        sent = subst (λ (t : ℕ). IsSentTo s t (next_turn s n)) back (record { on_a = e.over.on_a; on_b = e.over.on_b; ticked = after.seconds ∙ e.over.ticked });
        uncalled = uncalled;
      }
    where
      uncalled : IsUncalled (next_turn s e.now)
      uncalled place = grind arith

-- ---- The end
-- a run goes on after a turn with which it does not end
pub goes_on : (s : Setting) (now : Scene) (turn : ℕ) (status : Status) → now.turn ≡ turn → status ≡ client_status now → (s.count < turn → status ≡ Current s.count → ⊥) → MayGoOn s now
goes_on s now turn status turn_is status_is not above current = not (subst (λ (t : ℕ). s.count < t) turn_is above) (status_is ∙ current)

pub last_is : (s : Setting) (now : Scene) (turn : ℕ) (status : Status) → now.turn ≡ turn → turn ≤ s.count + 200 → status ≡ client_status now → s.count < turn → (status ≡ Current s.count) ⊎ (turn ≡ s.count + 200) → IsLast s now
last_is s now turn status turn_is within status_is above last = record {
  above = subst (λ (t : ℕ). s.count < t) (sym turn_is) above;
  within = subst (λ (t : ℕ). t ≤ s.count + 200) (sym turn_is) within;
  last = elim last [ inl current ↦ inl (sym status_is ∙ current) | inr spent ↦ inr (turn_is ∙ spent) ];
}
