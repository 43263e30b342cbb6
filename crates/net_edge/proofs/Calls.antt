-- What the code's calls of `next` and `take` come to.
use Rattle.std.proofs.Common.{◌≡◌, ◌⊎◌, Bool, ◌&&◌, cond, ℕ, List, [], ◌∷◌, ◌++◌, Option, refl, sym, ap, ◌∙◌, subst, arith}
use Rattle.pitch_io.specs.declared.line.Line.{Line}
use Rattle.pitch_io.specs.declared.line.Line.TheVariants.{Gap}
use Rattle.pitch_io.specs.declared.net.NetTaken.{NetTaken}
use Rattle.pitch_io.specs.declared.net.NetTaken.TheVariants.{Quiet, End, Failed}
use Rattle.pitch_io.specs.declared.net.LinkEnd.{LinkEnd}
use Rattle.pitch_io.specs.Nets.{Call, NetTakeFailed, Next, Take}
use Rattle.std.specs.List.{AllByRecursion}
use Rattle.pitch_model.specs.History.{Raw}
use Rattle.heard_items.specs.Datagrams.{IsPiece}
use Rattle.pitch_io.specs.layers.Coming.{ListsCall}
use Rattle.venue_end.specs.Came.{VenueState}
use Rattle.world_model.specs.State.{State}
use Rattle.net_edge.specs.Acting.{answered_on, end_took, heard_by, heard_on, is_group_open, sent_on, taken_at, takes}
use Rattle.net_edge.specs.Breaking.{Breaks}
use Rattle.net_edge.specs.Due.{AreDuePieces, Setting, call_room, demo_unit}
use Rattle.net_edge.specs.Scene.{Scene, at_end, got_end, is_got, waits_at}
use Rattle.net_edge.specs.declared.end_set.EndSet.{EndSet}
use Rattle.net_edge.specs.declared.error.DemoError.{DemoError}
use Rattle.net_edge.specs.declared.error.DemoError.TheVariants as errors
use Rattle.net_edge.specs.declared.stage.Stage.{Stage}
use Rattle.net_edge.specs.layers.Ends.{Becomes, Holds, Replays, and_end}
use Rattle.net_edge.specs.declared.turn.Place.TheVariants.{Line as TheLine, End as TheEnd}
use Rattle.net_edge.specs.layers.Playing.{AsksOnce, DemoAt, MayAsk, Plays, all_put_at, answers_of}
use Rattle.net_edge.proofs.Emptying.{PutsAll, put_one, put_turn, put_world}
use Rattle.net_edge.proofs.Standing.{Stood, stood_at}
use Rattle.net_edge.proofs.Asking.{answered, answered_answers, answered_asks, answered_ended, answered_replayed, answered_waits, heard_answers, heard_asks, heard_ended, heard_none_waits, heard_sent}
use Rattle.net_edge.proofs.Breaking.{breaks_by, breaks_here}
use Rattle.net_edge.proofs.Runs.{play_call}
use Rattle.net_edge.proofs.Scenes.{at_turn, at_world, on_world}

unheard : (line : Line) (bytes : List ℕ) (answer : NetTaken) (w : State) → (answer ≡ Quiet) ⊎ (answer ≡ End) → w ≡ heard_by line bytes answer w
unheard line bytes answer w none = grind arith

unfailed : (answer : NetTaken) → (answer ≡ Quiet) ⊎ (answer ≡ End) → NetTakeFailed answer → ⊥
unfailed Failed none failed = absurd (grind (arith, none))
unfailed answer none failed = failed

module _ {V : Type 0} (is : V → VenueState → Type 0) (line : Line) (s : Setting) (base : List Call) (c0 c1 : Option (List Call)) (room : ℕ) (bytes : List ℕ) (answer : NetTaken) (old : Stage V) (now : Scene)
    (lists : ListsCall c0 c1 (Next line room bytes answer)) (roomy : room ≡ call_room) (more : Bool) (may : MayAsk (TheLine line) more now) (at : DemoAt is s base c0 old now) where
  pub line_fails : NetTakeFailed answer → Breaks s base c1 errors.NetFault
  line_fails failed = breaks_by s base c0 c1 now (Next line room bytes answer) lists failed (roomy, may.opened) at.at.plays

  module _ (well : NetTakeFailed answer → ⊥) where
    line_plays : Plays s base c1 (heard_on line bytes answer now)
    line_plays = play_call s base c0 c1 now (Next line room bytes answer) lists well (roomy, may.opened) at.at.plays

    pub line_stops : Breaks s base c1 errors.OutOfMemory
    line_stops = breaks_here s base c1 (heard_on line bytes answer now) line_plays

    -- a stage holds the world that heard what came
    pub hears_once : (new : Stage V) → ((w : State) → Holds is old w → Holds is new (heard_by line bytes answer w)) → new.ended ≡ old.ended → AsksOnce is s base c1 new (TheLine line) answer now
    hears_once new holds ended = record {
      after = heard_on line bytes answer now;
      at = record {
        at = record {
          few = at.at.few;
          holds = subst (λ (w : State). Holds is new (heard_by line bytes answer w)) (sym (on_world now (answered_on line bytes answer now) line)) (holds now.world at.at.holds);
          ended = ended ∙ at.at.ended ∙ sym (heard_ended line bytes answer now);
          plays = line_plays;
        };
        put = heard_none_waits line bytes answer now at.put;
        replayed = heard_sent line bytes answer now at.replayed;
      };
      asks = heard_asks line bytes answer now;
      answers_are = heard_answers line bytes answer now;
    }

  pub hears_nothing : (answer ≡ Quiet) ⊎ (answer ≡ End) → AsksOnce is s base c1 old (TheLine line) answer now
  hears_nothing none = hears_once (unfailed answer none) old (λ w h. subst (Holds is old) (unheard line bytes answer w none) h) refl

-- ---- A call of `take`, and what is put and sent by that
-- what a call that puts all at an end ensures where it fails
abbrev PutBreaks : {V : Type 0} → (V → VenueState → Type 0) → LinkEnd → Option (List Call) → Option (List Call) → Stage V → DemoError → Type 0
PutBreaks is at c0 c1 e0 error = (s : Setting) (base : List Call) (now : Scene) (w : State) → Holds is e0 w → waits_at at w ≡ waits_at at now.world → Plays s base c0 now → Breaks s base c1 error

module _ {V : Type 0} (is : V → VenueState → Type 0) (at : LinkEnd) (s : Setting) (base : List Call) (c0 c1 : Option (List Call)) (room : ℕ) (bytes : List ℕ) (answer : NetTaken) (e0 : Stage V) (now : Scene)
    (lists : ListsCall c0 c1 (Take at room bytes answer)) (roomy : room ≡ call_room) (more : Bool) (may : MayAsk (TheEnd at) more now) (stands : DemoAt is s base c0 e0 now) where
  abbrev there : Scene
  there = taken_at at bytes answer now

  pub take_fails : NetTakeFailed answer → Breaks s base c1 errors.NetFault
  take_fails failed = breaks_by s base c0 c1 now (Take at room bytes answer) lists failed (roomy, may.opened, may.undone) stands.at.plays

  module _ (well : NetTakeFailed answer → ⊥) where
    -- the call is one of the run
    take_plays : Plays s base c1 there
    take_plays = play_call s base c0 c1 now (Take at room bytes answer) lists well (roomy, may.opened, may.undone) stands.at.plays

    pub take_stops : Breaks s base c1 errors.OutOfMemory
    take_stops = breaks_here s base c1 there take_plays

    -- and the stage holds what it leaves
    module _ (goes_on : Bool) (is_on : goes_on ≡ (is_got answer && more)) (e1 : Stage V) (holds : (w : State) → Holds is e0 w → Holds is e1 (takes at bytes answer goes_on w)) where
      goes : is_group_open (answer ∷ answers_of (TheEnd at) now) ≡ goes_on
      goes = may.goes answer ∙ sym is_on

      take_holds : Holds is e1 there.world
      take_holds = rw (at_world now (end_took bytes answer (at_end at now)) at, goes) (holds now.world stands.at.holds)

      pub put_breaks : (c2 : Option (List Call)) (error : DemoError) → PutBreaks is at c1 c2 e1 error → Breaks s base c2 error
      put_breaks c2 error breaks = breaks s base there there.world take_holds refl take_plays

      module _ (c2 : Option (List Call)) (puts : PutsAll is at c1 c2 e1) (lines : List (List ℕ)) (replays : (w : State) → Holds is e0 w → Replays w (takes at bytes answer goes_on w) [] lines) where
        put_plays : Plays s base c2 (all_put_at at there)
        put_plays = puts s base there there.world take_holds refl take_plays

        stood_now : Stood s now
        stood_now = stood_at s stands.at.few base c0 now stands.at.plays

        new : Replays now.world (takes at bytes answer goes_on now.world) [] lines
        new = replays now.world stands.at.holds

        due : AreDuePieces s (all_put_at at there).turn lines
        due = rw (put_turn at there, at_turn now (end_took bytes answer (at_end at now)) at, new.hands.lined)
            (subst (λ (Q : List Raw). AllByRecursion (IsPiece Q demo_unit) new.more) stood_now.sent.accepted new.hands.pieces)

        pub gap_breaks : (c3 : Option (List Call)) (error : DemoError) → ((s : Setting) (base : List Call) (n : Scene) → Plays s base c2 n → AreDuePieces s n.turn lines → Breaks s base c3 error) → Breaks s base c3 error
        gap_breaks c3 error breaks = breaks s base (all_put_at at there) put_plays due

        pub take_once : (c3 : Option (List Call)) (e2 : Stage V) → Becomes is e1 e2 (put_one at) → e1.ended ≡ cond (got_end answer) (and_end at e0.ended) e0.ended
            → ((s : Setting) (base : List Call) (n : Scene) → Plays s base c2 n → AreDuePieces s n.turn lines → Plays s base c3 (sent_on Gap lines n)) → AsksOnce is s base c3 e2 (TheEnd at) answer now
        take_once c3 e2 becomes ended sends = record {
          after = answered at bytes answer lines now;
          at = record {
            at = record {
              few = stands.at.few;
              holds = subst (Holds is e2) (sym (put_world at there)) (becomes.holds there.world take_holds);
              ended = becomes.ended ∙ ended ∙ ap (λ (ends : EndSet). cond (got_end answer) (and_end at ends) ends) stands.at.ended ∙ sym (answered_ended at bytes answer lines now);
              plays = sends s base (all_put_at at there) put_plays due;
            };
            put = answered_waits at bytes answer lines now stood_now.alone stands.put;
            replayed = answered_replayed at bytes answer lines now stands.replayed (ap (λ (b : Bool). (takes at bytes answer b now.world).replayed) goes ∙ new.replayed ∙ ap (λ (ds : List (List ℕ)). now.world.replayed ++ ds) (sym new.hands.lined));
          };
          asks = answered_asks at bytes answer lines now;
          answers_are = answered_answers at bytes answer lines now;
        }
