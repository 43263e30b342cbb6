-- A run that ended is a demo.
use Rattle.std.proofs.Common.{◌≡◌, ℕ, ◌<◌, ◌≤◌, ◌++◌, List, Option, Some, Result, Ok, Err, refl, sym, ap, ◌∙◌, subst, arith}
use Rattle.std.proofs.lemmas.Bool.{false≢true}
use Rattle.std.specs.List.{AllByRecursion}
use Rattle.std.specs.Result.{IsErr, IsErrAnd}
use Rattle.pitch_io.specs.declared.line.Line.{Line}
use Rattle.pitch_io.specs.declared.line.Line.TheVariants.{A, B, Gap}
use Rattle.pitch_io.specs.Nets.{Call}
use Rattle.pitch_messages.specs.Raw.{IsRaw}
use Rattle.venue_core.specs.Plan.{plan}
use Rattle.feed_lines.specs.UnitLine.{unit_line}
use Rattle.net_edge.specs.Acting.{scene_of}
use Rattle.net_edge.specs.Breaking.{ListsAdded}
use Rattle.net_edge.specs.Demo.{IsDemo, EndsDemo, IsLast, AddsCalls, AreShort, all_messages}
use Rattle.net_edge.specs.Due.{Setting, accepted, demo_unit}
use Rattle.net_edge.specs.Scene.{Scene, line_in}
use Rattle.net_edge.specs.Steps.{Step, calls_of}
use Rattle.net_edge.specs.Turns.{AreSteps, IsOver, client_status}
use Rattle.net_edge.specs.declared.error.DemoError.{DemoError}
use Rattle.net_edge.specs.declared.error.DemoError.TheVariants as errors
use Rattle.net_edge.specs.layers.Ends.{AreMessages}
use Rattle.net_edge.specs.layers.Playing.{IsAllSent, Plays, calls_before}
use Rattle.net_edge.specs.layers.Sending.{AreTotalsIfHonest, DoesDemo}
use Rattle.net_edge.proofs.Carried.{carried_is_honest}
use Rattle.net_edge.proofs.Feeding.{sent_pieces}
use Rattle.net_edge.proofs.Fitting.{due_short, replied_short}
use Rattle.net_edge.proofs.Sending.{none_called}
use Rattle.net_edge.proofs.Standing.{stood}

adds : (before after : Option (List Call)) (run : List Step) → ListsAdded (calls_before before) after (calls_of run) → AddsCalls run before after
adds (Some before) (Some after) run told = told
adds before after run told = tt

-- after the last message all were accepted
all_accepted : (s : Setting) (now : Scene) → s.count < now.turn → IsAllSent s now.turn now.world → now.world.venue.messages ≡ all_messages s
all_accepted s now above sent =
    let every : accepted s now.turn ≡ s.count = omega (arith, above) in
    sent.accepted ∙ ap (plan s.number demo_unit) every

module _ (s : Setting) (run : List Step) (few : s.count ≤ 1000) (steps : AreSteps s run) (over : IsOver s (scene_of s run)) (last : IsLast s (scene_of s run)) where
  all_are_short : AllByRecursion IsRaw (all_messages s) → (line : Line) → AreShort (line_in line (scene_of s run)).sent
  all_are_short raws A = subst AreShort (sym over.on_a) (due_short s raws A (scene_of s run).turn)
  all_are_short raws B = subst AreShort (sym over.on_b) (due_short s raws B (scene_of s run).turn)
  all_are_short raws Gap = subst AreShort (sym over.replayed) (replied_short s raws few run)

  run_ends : (orders quantity : ℕ) → AreMessages (scene_of s run).world.venue.messages → AreTotalsIfHonest (scene_of s run).world orders quantity → EndsDemo s (scene_of s run) orders quantity
  run_ends orders quantity are totals =
      let R : Scene = scene_of s run in
      let all : R.world.venue.messages ≡ all_messages s = all_accepted s R last.above (stood s few run).sent in
      record {
        over = over;
        last = last;
        pieces = sent_pieces s run steps;
        short = all_are_short (subst (AllByRecursion IsRaw) all are.raws);
        book = λ carried. rw all at (totals (rw all (carried_is_honest s run few steps last.above carried)));
      }

pub demo_is : (s : Setting) (before after : Option (List Call)) (text text' : List ℕ) (now : Scene) (orders quantity : ℕ) → s.count ≤ 1000 → Plays s (calls_before before) after now → IsOver s now → IsLast s now → AreMessages now.world.venue.messages → AreTotalsIfHonest now.world orders quantity
    → text' ≡ text ++ unit_line demo_unit (client_status now) orders quantity → IsDemo s before after text text'
demo_is s before after text text' now orders quantity few plays over last are totals printed =
    let run : List Step = plays.0 in
    let led = plays.1 in
    let back : now ≡ scene_of s run = sym led.now_is in
    record {
      run = run;
      calls = adds before after run led.told;
      steps = led.steps;
      orders = orders;
      quantity = quantity;
      end = run_ends s run few led.steps (subst (IsOver s) back over) (subst (IsLast s) back last) orders quantity (subst (λ (n : Scene). AreMessages n.world.venue.messages) back are) (subst (λ (n : Scene). AreTotalsIfHonest n.world orders quantity) back totals);
      printed = printed ∙ ap (λ (n : Scene). text ++ unit_line demo_unit (client_status n) orders quantity) back;
    }

-- ---- A demo for which memory ran out before it began
pub nothing_done : (s : Setting) (calls : Option (List Call)) (faults : ℕ) (text : List ℕ) → DoesDemo s (Err errors.OutOfMemory) calls calls faults faults text text
nothing_done s calls faults text = record {
  ran = tt;
  broke = none_called s calls;
  counts = record { fault = λ e. absurd (apart e); later = omega arith; still = tt };
  err = refl;
}
  where
    apart : ◌≡◌ {A = DemoError} errors.OutOfMemory errors.NetFault → ⊥
    apart e = cc

pub demo_unbegun : (s : Setting) (calls : Option (List Call)) (faults : ℕ) (text : List ℕ) (result : Result (Unit {0}) DemoError) → IsErr result × IsErrAnd result (λ e. e ≡ errors.OutOfMemory) → DoesDemo s result calls calls faults faults text text
demo_unbegun s calls faults text (Ok done) is = absurd (false≢true is.0)
demo_unbegun s calls faults text (Err error) is = subst (λ (e : DemoError). DoesDemo s (Err e) calls calls faults faults text text) (sym is.1) (nothing_done s calls faults text)
