-- What a demo sends, whatever it answers.
use Rattle.std.proofs.Common.{◌≡◌, inl, inr, List, [], ◌∷◌, ◌++◌, Option, None, Some, Result, Ok, Err, OnOk, refl, sym, ◌∙◌, append_assoc}
use Rattle.std.specs.List.{AllByRecursion}
use Rattle.std.specs.Result.{IfErr}
use Rattle.pitch_fields.proofs.Lists.{all_append}
use Rattle.pitch_io.specs.declared.net.NetDone.TheVariants.{Done, Failed}
use Rattle.pitch_io.specs.Nets.{Call, Begin, Send}
use Rattle.net_edge.specs.Acting.{scene_of}
use Rattle.net_edge.specs.Breaking.{Breaks, BreaksOff}
use Rattle.net_edge.specs.Demo.{IsDemo, BreaksDemo, AddsCalls}
use Rattle.net_edge.specs.layers.Sending.{SendsPiece, SendsPieces}
use Rattle.net_edge.specs.Due.{Setting}
use Rattle.net_edge.specs.layers.Playing.{calls_before}
use Rattle.net_edge.specs.Scene.{Scene}
use Rattle.net_edge.specs.Steps.{Step, Did, Beat, Turn, calls_of}
use Rattle.net_edge.specs.Turns.{AreSteps, MayCall}
use Rattle.net_edge.specs.declared.error.DemoError.{DemoError}
use Rattle.net_edge.specs.declared.error.DemoError.TheVariants as errors
use Rattle.net_edge.proofs.Feeding.{piece_of_all}

-- ---- A demo that ended early
pub none_called : (s : Setting) (calls : Option (List Call)) → BreaksDemo s calls calls errors.OutOfMemory
none_called s None = tt
none_called s (Some calls) = inl refl

pub broke_demo : (s : Setting) (before after : Option (List Call)) (error : DemoError) → Breaks s (calls_before before) after error → BreaksDemo s before after error
broke_demo s (Some before) (Some after) error broke = inr broke
broke_demo s before after error broke = tt

-- ---- What was sent
module _ (s : Setting) where
  call_sends : (call : Call) (now : Scene) → MayCall s call now → SendsPiece s call
  call_sends (Send line datagram answer) now may = piece_of_all s now.turn datagram may
  call_sends call now may = tt

  run_sends : (run : List Step) → AreSteps s run → AllByRecursion (SendsPiece s) (calls_of run)
  run_sends [] steps = tt
  run_sends (Did call ∷ before) steps = (call_sends call (scene_of s before) steps.0.1, run_sends before steps.1)
  run_sends (Beat heartbeat answer ∷ before) steps = (piece_of_all s (scene_of s before).turn heartbeat steps.0.3, run_sends before steps.1)
  run_sends (Turn ∷ before) steps = run_sends before steps.1

  failed_sends : (error : DemoError) (failed : List Call) (now : Scene) → BreaksOff s error failed now → AllByRecursion (SendsPiece s) failed
  failed_sends errors.NetFault (call ∷ []) now off = (call_sends call now off.1, tt)
  failed_sends errors.OutOfMemory [] now off = tt
  failed_sends error failed now off = absurd off

  begun_sends : (before after calls : List Call) → AllByRecursion (SendsPiece s) calls → after ≡ calls ++ (Begin Done ∷ before) → SendsPieces s (Some before) (Some after)
  begun_sends before after calls all is = (calls ++ Begin Done ∷ [], is ∙ sym (append_assoc calls (Begin Done ∷ []) before), all_append (SendsPiece s) calls (Begin Done ∷ []) all (tt, tt))

  demo_sends : (before after : Option (List Call)) (run : List Step) → AddsCalls run before after → AreSteps s run → SendsPieces s before after
  demo_sends (Some before) (Some after) run adds steps = begun_sends before after (calls_of run) (run_sends run steps) adds
  demo_sends before after run adds steps = tt

  broke_sends : (before after : Option (List Call)) (error : DemoError) → BreaksDemo s before after error → SendsPieces s before after
  broke_sends (Some before) (Some after) errors.OutOfMemory (inl same) = ([], same, tt)
  broke_sends (Some before) (Some after) errors.NetFault (inl failed) = (Begin Failed ∷ [], failed, (tt, tt))
  broke_sends (Some before) (Some after) error (inr broke) =
      begun_sends before after (broke.failed ++ calls_of broke.run)
      (all_append (SendsPiece s) broke.failed (calls_of broke.run) (failed_sends error broke.failed (scene_of s broke.run) broke.broke) (run_sends broke.run broke.steps)) broke.told
  broke_sends before after error broke = tt

  -- nothing was called
  pub sends_nothing : (calls : Option (List Call)) → SendsPieces s calls calls
  sends_nothing calls = broke_sends calls calls errors.OutOfMemory (none_called s calls)

  -- whatever a demo answers
  pub sends_pieces : {A : Type 0} (before after : Option (List Call)) (text text' : List _) (r : Result A DemoError) → OnOk r (IsDemo s before after text text') → IfErr r (λ error. BreaksDemo s before after error) → SendsPieces s before after
  sends_pieces before after text text' (Ok x) ran broke = demo_sends before after ran.run ran.calls ran.steps
  sends_pieces before after text text' (Err error) ran broke = broke_sends before after error broke
