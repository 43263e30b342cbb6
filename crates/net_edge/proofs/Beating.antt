-- A heartbeat, and the second that passes with it.
use Rattle.std.proofs.Common.{◌≡◌, ◌+◌, ◌%◌, ℕ, Bool, true, cond, arith, List, [], ◌∷◌, Option, sym, ap, ◌∙◌, subst}
use Rattle.std.proofs.lemmas.Bool.Decides.{nat_tests}
use Rattle.std.specs.List.{AllByRecursion}
use Rattle.pitch_io.specs.declared.line.Line.TheVariants.{A, B}
use Rattle.pitch_io.specs.declared.net.NetDone.TheVariants.{Done}
use Rattle.pitch_io.specs.Nets.{Call, Send}
use Rattle.pitch_io.specs.layers.Coming.{ListsCall}
use Rattle.pitch_model.specs.History.{Raw}
use Rattle.unit_packets.specs.BlockBytes.{block_bytes, heartbeat_block}
use Rattle.heard_items.specs.Datagrams.{IsPiece}
use Rattle.venue_end.specs.Came.{VenueState, Beaten, on_lines}
use Rattle.world_model.specs.State.{State}
use Rattle.net_edge.specs.Acting.{all_tick, in_world, sent_on}
use Rattle.net_edge.specs.Due.{IsDuePiece, Setting, beat, demo_unit, is_tenth}
use Rattle.net_edge.specs.Scene.{Scene}
use Rattle.net_edge.specs.declared.stage.Stage.{Stage}
use Rattle.net_edge.specs.layers.Ends.{Becomes, HandsOut, Holds, demo_venue}
use Rattle.net_edge.specs.layers.Playing.{DemoAt, Plays, StageAt, after_beat, after_due_beat, all_put}
use Rattle.net_edge.proofs.Runs.{play_beat}
use Rattle.net_edge.proofs.Standing.{messages_many, stood_at}
use Rattle.net_edge.proofs.Taking.{ticked_replayed}
use Rattle.net_edge.proofs.Turning.{none_waits}

the_first : List (List ℕ) → List ℕ
the_first [] = []
the_first (x ∷ xs) = x

module _ {V : Type 0} (is : V → VenueState → Type 0) (s : Setting) (base : List Call) (calls : Option (List Call)) (e : Stage V) (now : Scene) (heartbeat : List ℕ) (at : DemoAt is s base calls e now)
    (hands : (w : State) → Holds is e w → HandsOut w.venue [] (heartbeat ∷ []) (on_lines demo_venue Beaten w.venue)) where
  -- it is that of the turn, and a piece
  pub heartbeat_is : heartbeat ≡ beat s now.turn
  unfolding the_first block_bytes
  heartbeat_is =
      let stood = stood_at s at.at.few base calls now at.at.plays in
      ap the_first (hands now.world at.at.holds).lined
      ∙ ap (λ (n : ℕ). block_bytes (heartbeat_block demo_unit (n + 1))) (stood.sent.all_sent ∙ messages_many s now.turn)

  pub heartbeat_piece : IsDuePiece s now.turn heartbeat
  heartbeat_piece =
      let stood = stood_at s at.at.few base calls now at.at.plays in
      let out = hands now.world at.at.holds in
      subst (λ (Q : List Raw). IsPiece Q demo_unit heartbeat) stood.sent.accepted
      (subst (λ (ds : List (List ℕ)). AllByRecursion (IsPiece now.world.venue.messages demo_unit) ds) (sym out.lined) out.pieces).0

  -- in a tenth turn it was sent on both lines, and a second passed
  module _ (turn : ℕ) (turn_is : now.turn ≡ turn) (tenth : turn % 10 ≡ 0) (c1 c2 : Option (List Call)) (sends : Plays s base calls now → IsDuePiece s now.turn heartbeat → Plays s base c1 (sent_on A (heartbeat ∷ []) now)) (lists : ListsCall c1 c2 (Send B heartbeat Done)) where
    is_due : is_tenth now.turn ≡ true
    is_due = ap is_tenth turn_is ∙ grind (arith, nat_tests, tenth)

    abbrev pub passed : Scene
    passed = in_world all_tick (sent_on B (heartbeat ∷ []) (sent_on A (heartbeat ∷ []) now))

    pub passed_plays : Plays s base c2 passed
    passed_plays = play_beat s base c1 c2 (sent_on A (heartbeat ∷ []) now) heartbeat lists heartbeat_is is_due heartbeat_piece (sends at.at.plays heartbeat_piece)

    module _ (new : Stage V) (ticks : Becomes is e new all_tick) where
      pub passed_stage : StageAt is s base c2 new passed
      passed_stage = record { few = at.at.few; holds = ticks.holds now.world at.at.holds; ended = ticks.ended ∙ at.at.ended; plays = passed_plays }

      pub beaten : (c3 : Option (List Call)) (newer : Stage V) → (StageAt is s base c2 new passed → StageAt is s base c3 newer (all_put passed)) → DemoAt is s base c3 newer (after_due_beat s now)
      beaten c3 newer puts = subst (λ (b : Bool). DemoAt is s base c3 newer (cond b (after_beat s now) now)) (sym is_due)
          (subst (λ (b : List ℕ). DemoAt is s base c3 newer (all_put (in_world all_tick (sent_on B (b ∷ []) (sent_on A (b ∷ []) now))))) heartbeat_is (record {
            at = puts passed_stage;
            put = none_waits passed.world;
            replayed = at.replayed ∙ sym (ticked_replayed now.world);
          }))
