-- A storm reads nothing, and writes its summary.
use Rattle.std.proofs.Common.{◌≡◌, ◌≢◌, ℕ, List, [], Option, Result, Err, arith, subst}
use Rattle.pitch_io.specs.Causes.{HasCause}
use Rattle.pitch_io.specs.Putting.{Grows}
use Rattle.schedule_replay.specs.layers.Places.{AddsWorlds}
use Rattle.storm_replay.specs.Storm.{storm_schedule}
use Rattle.stream_print.specs.Putting.{PutsSome}
use Rattle.stream_print.specs.Told.{TakesAtMost, between}
use Rattle.stream_print.proofs.Feeding.{consumes_none}
use Rattle.world_model.specs.declared.world.World.{World}
use Rattle.pitch_tool.specs.StormForm.{IsRun}
use Rattle.pitch_tool.specs.declared.failure.Failure.{Failure}
use Rattle.pitch_tool.specs.declared.failure.Failure.TheVariants.{Read}

-- a source of which nothing is read
pub takes_none : (most : ℕ) (left : Option (List ℕ)) → TakesAtMost most (between left left)
takes_none most left = record { taken = []; read = consumes_none left; within = omega arith }

-- and which can't fail then
pub no_read_fault : (faults : ℕ) (result : Result (Unit {0}) Failure) → result ≢ Err Read → HasCause faults faults (result ≡ Err Read)
no_read_fault faults result differs = record { later = omega arith; rose = λ e. absurd (differs e) }

pub storm_is_run : (number units steps : ℕ) (old new : List World) → AddsWorlds (storm_schedule number units steps) old new → IsRun number units steps
storm_is_run number units steps old new adds = (adds.added, adds.run)

pub writes_summary : (old new : Option (List ℕ)) (text bytes : List ℕ) → bytes ≡ text → Grows old new bytes → Grows old new text
writes_summary old new text bytes is grows = subst (λ (l : List ℕ). Grows old new l) is grows

pub writes_some : (old new : Option (List ℕ)) (text bytes : List ℕ) → bytes ≡ text → PutsSome old new bytes → PutsSome old new text
writes_some old new text bytes is some = subst (λ (l : List ℕ). PutsSome old new l) is some
