-- A drill: what is written of it, and how it ends. It reads nothing.
use Rattle.std.specs.Prelude.{ℕ, Result, Ok, Err}
use Rattle.pitch_io.specs.Putting.{Grows}
use Rattle.stream_print.specs.Putting.{PutsSome}
use Rattle.stream_print.specs.Told.{Told, IsUntouched}
use Rattle.drill_client.specs.DrillText.{drill_text}
use Rattle.pitch_tool.specs.declared.failure.Failure.{Failure}
use Rattle.pitch_tool.specs.declared.failure.Failure.TheVariants.{Write, OutOfMemory}

-- How a drill ends: where its units ended was written; or a prefix of it, where the sink failed; or
-- nothing, where memory ran out.
abbrev pub DrillEnds : (number units count : ℕ) → Result (Unit {0}) Failure → (out : Told) → Type 0
DrillEnds number units count (Ok done) out = Grows out.old out.new (drill_text number units count)
DrillEnds number units count (Err Write) out =
    PutsSome out.old out.new (drill_text number units count)
DrillEnds number units count (Err OutOfMemory) out = IsUntouched out
DrillEnds number units count (Err _) out = ⊥
