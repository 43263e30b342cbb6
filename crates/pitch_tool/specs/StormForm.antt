-- A storm: what is written of it, and how it ends. It reads nothing.
use Rattle.std.specs.Prelude.{ℕ, List, Result, Ok, Err}
use Rattle.pitch_io.specs.Putting.{Grows}
use Rattle.schedule_replay.specs.Worlds.{AreRunThrough}
use Rattle.storm_replay.specs.Ended.{whole_text}
use Rattle.storm_replay.specs.Storm.{storm_schedule}
use Rattle.storm_replay.specs.Summary.{storm_text}
use Rattle.stream_print.specs.Putting.{PutsSome}
use Rattle.stream_print.specs.Told.{Told, IsUntouched}
use Rattle.world_model.specs.declared.world.World.{World}
use Rattle.pitch_tool.specs.declared.failure.Failure.{Failure}
use Rattle.pitch_tool.specs.declared.failure.Failure.TheVariants.{Write, OutOfMemory}

-- the worlds of a storm's units were run through all lines of its schedule
abbrev pub IsRun : (number units steps : ℕ) → Type 0
IsRun number units steps =
    (worlds : List World) × AreRunThrough (storm_schedule number units steps) worlds

-- How a storm ends: its summary was written, which says of each unit that it is current at the last
-- message of its plan; or a prefix of the summary, where the sink failed; or nothing, where memory
-- ran out.
abbrev pub StormEnds : (number units steps : ℕ) → Result (Unit {0}) Failure → (out : Told) → Type 0
StormEnds number units steps (Ok done) out =
    IsRun number units steps
    × (Grows out.old out.new (storm_text number units steps)
    × Grows out.old out.new (whole_text number units steps))
StormEnds number units steps (Err Write) out =
    IsRun number units steps × PutsSome out.old out.new (storm_text number units steps)
StormEnds number units steps (Err OutOfMemory) out = IsUntouched out
StormEnds number units steps (Err _) out = ⊥
