-- An input that is read whole.
use Rattle.std.specs.Prelude.{◌≡◌, ℕ, ◌<◌, List, length}
use Rattle.std.specs.Io.KnownBytes.{Consumes}
use Rattle.stream_print.specs.Inputs.{Has}
use Rattle.stream_print.specs.Told.{Told}
use Rattle.pitch_tool.specs.declared.failure.Failure.{Failure}
use Rattle.pitch_tool.specs.declared.failure.Failure.TheVariants.{BadInput, Read, OutOfMemory}
use Rattle.pitch_tool.specs.declared.failure.Trouble.{Trouble}

-- why an input was not read whole: it has more bytes than are read, which is this trouble; or the
-- source failed after some bytes; or memory ran out
abbrev pub IsUnread : ℕ → Trouble → Told → Failure → Type 0
IsUnread most long input (BadInput trouble) =
    (trouble ≡ long) × (bytes : List ℕ) × Has input.old bytes × (most < length bytes)
IsUnread most long input Read = (bytes : List ℕ) × Consumes input.old input.new bytes
IsUnread most long input OutOfMemory = Unit {0}
IsUnread most long input _ = ⊥
