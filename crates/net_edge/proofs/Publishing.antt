-- What the venue hands out as a message of the plan is accepted and sent.
use Rattle.std.proofs.Common.{◌≡◌, ◌≤◌, ◌<◌, ◌+◌, ◌-◌, ℕ, suc, Bool, true, cond, List, [], length, drop, arith, Option, Some, None, refl, sym, ap, ◌∙◌, subst}
use Rattle.std.proofs.lemmas.Bool.Decides.{nat_tests}
use Rattle.std.proofs.Math.Seq.{drop-length}
use Rattle.std.specs.List.{AllByRecursion}
use Rattle.std.specs.Prelude.{nat_le}
use Rattle.heard_items.specs.Datagrams.{IsPiece}
use Rattle.pitch_io.specs.declared.line.Line.{Line}
use Rattle.pitch_io.specs.declared.line.Line.TheVariants.{A, B}
use Rattle.pitch_io.specs.Nets.{Call}
use Rattle.pitch_messages.specs.Room.{Roomy}
use Rattle.pitch_model.specs.History.{Raw}
use Rattle.pitch_text.specs.declared.verb.Verb.TheVariants as verbs
use Rattle.unit_packets.specs.Packing.{bytes_in, packed}
use Rattle.unit_packets.proofs.OnePacking.{no_messages}
use Rattle.venue_core.specs.Losses.{is_lost}
use Rattle.venue_core.specs.Plan.{plan_command}
use Rattle.venue_core.specs.Refusals.{refusal}
use Rattle.venue_core.specs.declared.error.VenueError.{VenueError}
use Rattle.venue_end.specs.Came.{Flushed, VenueState, commanded_on, on_lines}
use Rattle.world_model.specs.State.{State}
use Rattle.net_edge.specs.Acting.{sent_on}
use Rattle.net_edge.specs.Due.{AreDuePieces, Setting, accepted, copies, demo_unit, messages, new_datagrams}
use Rattle.net_edge.specs.Scene.{Scene, done_with, published}
use Rattle.net_edge.specs.declared.stage.Stage.{Stage}
use Rattle.net_edge.specs.layers.Ends.{Becomes, HandsOut, Holds, demo_venue}
use Rattle.net_edge.specs.layers.Playing.{DemoAt, IsAllSent, IsSentTo, Plays, TurnBegins, TurnGoes, after_due_beat}
use Rattle.net_edge.proofs.Standing.{messages_many, published_sent}
use Rattle.net_edge.proofs.Turning.{copied, sent_to, turn_then, uncalled_then}

-- once all were accepted there is none
pub no_datagrams : (s : Setting) (turn : ℕ) → s.count < turn → [] ≡ new_datagrams s turn
no_datagrams s turn above =
    let same : accepted s (turn - 1) ≡ accepted s turn = omega (arith, above) in
    let all : accepted s (turn - 1) ≡ length (messages s turn) = same ∙ sym (messages_many s turn) in
    sym (ap (λ (V : List Raw). packed demo_unit (accepted s (turn - 1) + 1) V) (ap (λ (n : ℕ). drop n (messages s turn)) all ∙ drop-length (messages s turn)) ∙ no_messages demo_unit (accepted s (turn - 1) + 1))

module _ (s : Setting) (few : s.count ≤ 1000) (turn : ℕ) (some : 1 ≤ turn) (within : turn ≤ s.count) (w : State) (is : IsAllSent s (turn - 1) w) where
  abbrev commanded : State
  commanded = done_with (verbs.Command (plan_command s.number demo_unit turn)) w

  sent_same : (o : Option VenueError) → (commanded_on o (plan_command s.number demo_unit turn) w.venue).sent ≡ w.venue.sent
  sent_same None = refl
  sent_same (Some error) = refl

  goes : nat_le turn s.count ≡ true
  goes = grind (arith, nat_tests, within)

  then : IsAllSent s turn (published s turn w)
  then = let e : suc (turn - 1) ≡ turn = omega (arith, some) in subst (λ (t : ℕ). IsAllSent s t (published s t w)) e (published_sent s few (turn - 1) w is)

  accepted_is : commanded.venue.messages ≡ messages s turn
  accepted_is = ap (λ (b : Bool). (cond b (done_with verbs.Flush commanded) w).venue.messages) (sym goes) ∙ then.accepted

  out_is : on_lines demo_venue Flushed commanded.venue ≡ new_datagrams s turn
  out_is =
      let many : commanded.venue.sent ≡ accepted s (turn - 1) = sent_same (refusal w.venue.messages (plan_command s.number demo_unit turn)) ∙ is.all_sent ∙ messages_many s (turn - 1) in
      ap (λ (n : ℕ). packed demo_unit (n + 1) (drop n commanded.venue.messages)) many ∙ ap (λ (V : List Raw). packed demo_unit (accepted s (turn - 1) + 1) (drop (accepted s (turn - 1)) V)) accepted_is

  pub turn_datagrams : (lines : List (List ℕ)) → HandsOut commanded.venue [] lines (on_lines demo_venue Flushed commanded.venue) → (lines ≡ new_datagrams s turn) × AreDuePieces s turn lines
  turn_datagrams lines hands = (
    hands.lined ∙ out_is,
    subst (λ (V : List Raw). AllByRecursion (IsPiece V demo_unit) lines) accepted_is (subst (AllByRecursion (IsPiece commanded.venue.messages demo_unit)) (sym hands.lined) hands.pieces),
  )

-- ---- What is handed out is sent on both lines
-- what a call that sends datagrams on a line, unless they are lost, ensures of the net's calls
abbrev SendsOn : Line → Bool → List (Roomy ℕ) → Option (List Call) → Option (List Call) → Type 0
SendsOn line lost list before after =
    (s : Setting) (base : List Call) (now : Scene) → Plays s base before now → AreDuePieces s now.turn (bytes_in list) → Plays s base after (sent_on line (cond lost [] (bytes_in list)) now)

module _ {V : Type 0} (is : V → VenueState → Type 0) (s : Setting) (base : List Call) (turn : ℕ) (c0 : Option (List Call)) (old : Stage V) (now : Scene) (begins : TurnBegins is s base c0 old turn now)
    (given : List (Roomy ℕ)) (handed : (w : State) → Holds is old w → IsAllSent s (turn - 1) w → (bytes_in given ≡ new_datagrams s turn) × AreDuePieces s turn (bytes_in given)) where
  -- they are pieces, as a scene of the turn has it
  pub pieces_in : (list : List (Roomy ℕ)) → list ≡ given → AreDuePieces s now.turn (bytes_in list)
  pieces_in list same = rw (same, begins.turn_is) (handed begins.world begins.holds begins.all_sent).1

  module _ (c1 : Option (List Call)) (lost_a : Bool) (list_a : List (Roomy ℕ)) (same_a : list_a ≡ given) (sends_a : SendsOn A lost_a list_a c0 c1) where
    abbrev pub on_a : Scene
    on_a = sent_on A (cond lost_a [] (bytes_in list_a)) now

    pub plays_a : Plays s base c1 on_a
    plays_a = sends_a s base now begins.plays (pieces_in list_a same_a)

    module _ (c2 : Option (List Call)) (lost_b : Bool) (list_b : List (Roomy ℕ)) (same_b : list_b ≡ given) (sends_b : SendsOn B lost_b list_b c1 c2) (middle : Stage V) (becomes : Becomes is old middle (published s turn)) where
      abbrev pub on_both : Scene
      on_both = sent_on B (cond lost_b [] (bytes_in list_b)) on_a

      pub sent_at : DemoAt is s base c2 middle on_both
      sent_at = record {
        at = record {
          few = begins.few;
          holds = subst (Holds is middle) (sym begins.world_is) (becomes.holds begins.world begins.holds);
          ended = becomes.ended ∙ begins.ended;
          plays = sends_b s base on_a plays_a (pieces_in list_b same_b);
        };
        put = begins.put;
        replayed = begins.replayed;
      }

      -- the copies that the rule of losses lets through are those of the turn, and then came its heartbeat
      module _ (rule_a : lost_a ≡ is_lost s.number demo_unit turn 1) (rule_b : lost_b ≡ is_lost s.number demo_unit turn 2) (some : 1 ≤ turn) where
        new_ones : (list : List (Roomy ℕ)) → list ≡ given → bytes_in list ≡ new_datagrams s turn
        new_ones list same = ap (λ (l : List (Roomy ℕ)). bytes_in l) same ∙ (handed begins.world begins.holds begins.all_sent).0

        copies_a : cond lost_a [] (bytes_in list_a) ≡ copies s A turn
        copies_a = ap (λ (b : Bool). cond b [] (bytes_in list_a)) rule_a ∙ ap (λ (ds : List (List ℕ)). cond (is_lost s.number demo_unit turn 1) [] ds) (new_ones list_a same_a)

        copies_b : cond lost_b [] (bytes_in list_b) ≡ copies s B turn
        copies_b = ap (λ (b : Bool). cond b [] (bytes_in list_b)) rule_b ∙ ap (λ (ds : List (List ℕ)). cond (is_lost s.number demo_unit turn 2) [] ds) (new_ones list_b same_b)

        both_copied : on_both ≡ copied s turn now
        both_copied = ap (λ (ds : List (List ℕ)). sent_on B ds on_a) copies_b ∙ ap (λ (ds : List (List ℕ)). sent_on B (copies s B turn) (sent_on A ds now)) copies_a

        pub turn_goes : (c3 : Option (List Call)) (new : Stage V) → ((n : Scene) → DemoAt is s base c2 middle n → n.turn ≡ turn → DemoAt is s base c3 new (after_due_beat s n)) → TurnGoes is s base c3 new turn
        turn_goes c3 new beats_if_due =
            let all : IsSentTo s now.turn (after_due_beat s (copied s now.turn now)) = sent_to s now (subst (λ (t : ℕ). 1 ≤ t) (sym begins.turn_is) some) (subst (λ (t : ℕ). IsSentTo s (t - 1) now) (sym begins.turn_is) begins.sent) in
            record {
              now = after_due_beat s (copied s turn now);
              at = subst (λ (n : Scene). DemoAt is s base c3 new (after_due_beat s n)) both_copied (beats_if_due on_both sent_at begins.turn_is);
              turn_is = turn_then s turn now ∙ begins.turn_is;
              sent = subst (λ (t : ℕ). IsSentTo s t (after_due_beat s (copied s t now))) begins.turn_is all;
              uncalled = uncalled_then s turn now begins.uncalled;
            }
